-- `lines::text::bytes_before` meets its contract. Assumes nothing.
use mathlib.Core.Path.{◌≡◌, ap, ◌∙◌}
use lib.Dec.{eqb}
use lib.ListN.{length}
use Rattle.std.proofs.Common.{rules, tests}
use Rattle.std.proofs.lemmas.Iterator.{YieldsList-from_slice}
use Rattle.std.proofs.lemmas.Iterator.Search.{position_from_yields_List}
use Rattle.std.specs.Prelude.{position}
use Rattle.std.specs.Option.{unwrap_or}
use Rattle.lines.proofs.TextLaws.{before_position}
use Rattle.lines.proofs.text.bytes_before.Goals as goal

pub returns : goal.returns
returns c =
    let rest = c.args.rest.now in
    let found : c.position.result ≡ position (λ b. eqb b c.args.stop) rest =
    position_from_yields_List (λ b. eqb b c.args.stop) _ _ c.position.result c.position.ensures.ran (YieldsList-from_slice rest c.iter.ensures.rest) (λ x b q k. search (rules, tests))
    in
    c.unwrap_or.ensures ∙ ap (λ place. unwrap_or place (length rest)) found ∙ before_position c.args.stop rest
