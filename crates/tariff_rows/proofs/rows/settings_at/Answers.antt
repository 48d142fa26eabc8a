-- `tariff_rows::rows::settings_at` meets its contract: the numbers are those of the table from the place on. Assumes nothing.
use Rattle.std.proofs.Common.{List, ℕ, get_or, ap, ◌∙◌, rules}
use Rattle.tariff.specs.Settings.{settings_of}
use Rattle.tariff.proofs.Lists.{at_tabulate}
use Rattle.tariff.proofs.SettingsLaws.{settings_ext}
use Rattle.tariff.proofs.FromFn.{made_list}
use Rattle.tariff_rows.proofs.rows.settings_at.Goals as goal

pub returns : goal.returns
returns c =
    let pairs : List ℕ = c.part-pairs.result.now in
    let made = made_list _ _ (λ k. get_or pairs k 0) (λ k y q called. search rules) 12 _ c.from_fn.ensures.items in
    c.from.ensures
    ∙ settings_ext c.from_fn.result pairs (λ k l. ap (λ xs. get_or xs k 0) made ∙ at_tabulate 12 (λ q. get_or pairs q 0) 0 k l)
    ∙ ap settings_of c.part-pairs.ensures
