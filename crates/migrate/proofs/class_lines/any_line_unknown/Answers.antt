-- `migrate::class_lines::any_line_unknown` meets its contract: the test on each line is that of the definition. Assumes nothing.
use Rattle.std.proofs.Common.{◌||◌, rules, sym, ◌∙◌}
use Rattle.std.proofs.lemmas.Iterator.{YieldsList-from_slice}
use Rattle.std.proofs.lemmas.Iterator.Search.{any_from_yields_List}
use Rattle.tariff.proofs.Lists.{any_is}
use Rattle.netting.specs.declared.netting.ClassLine.{ClassLine}
use Rattle.records.specs.Opening.{opening_in}
use Rattle.ledger.specs.Ranges.{unknown_holder, unknown_holder_in}
use Rattle.migrate.proofs.class_lines.any_line_unknown.Goals as goal

pub returns : goal.returns
unfolding unknown_holder_in
returns c =
    let test = λ (l : ClassLine). unknown_holder (opening_in c.args.o.now) l.from || unknown_holder (opening_in c.args.o.now) l.to in
    any_from_yields_List test _ _ _ c.any.ensures.ran (YieldsList-from_slice c.args.lines.now cc) (λ x b q called. search rules) ∙ sym (any_is test c.args.lines.now)
