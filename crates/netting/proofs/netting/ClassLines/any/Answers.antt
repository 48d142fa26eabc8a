-- `netting::netting::ClassLines::any` meets its contract: the iterator gives the lines. Assumes nothing.
use Rattle.std.proofs.Common.{length, refl, ◌∙◌, rules, arith}
use Rattle.std.proofs.lemmas.Iterator.{YieldsList-from_map, YieldsList-from_range}
use Rattle.std.proofs.lemmas.Iterator.Consumers.{YieldsList-at}
use Rattle.std.proofs.lemmas.Iterator.Search.{any_from_yields_List}
use Rattle.netting.specs.Columns.{line_in}
use Rattle.netting.proofs.FitLines.{found_line}
use Rattle.netting.proofs.netting.ClassLines.any.Goals as goal

pub returns : goal.returns
returns g c =
    λ passes is.
    let columns = c.args.self.columns in
    let n = length columns.froms.now in
    any_from_yields_List passes _ _ _ c.any.ensures.ran (YieldsList-from_map _ (line_in columns) (YieldsList-at c.map.ensures.source (YieldsList-from_range 0 n n refl (omega arith))) c.map.ensures.closure (λ k line q called. search rules)) (λ line b q called. (g.met.F.Fn.1.step_stays _ _ _ _ called, is line b ((g.met.F.FnMut.1.post_iff _ _ _).1 (q, called))))
    ∙ found_line _ _ _ _ _ passes
