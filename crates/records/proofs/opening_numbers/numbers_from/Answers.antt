-- `records::opening_numbers::numbers_from` meets its contract: each number is read at its place. Assumes nothing.
use Rattle.std.proofs.Common.{◌+◌, get_or, rules}
use Rattle.tariff.proofs.FromFn.{made_list}
use Rattle.records.proofs.opening_numbers.numbers_from.Goals as goal

pub returns : goal.returns
returns g c = made_list _ _ (λ k. get_or c.args.numbers.now (c.args.start + k) 0) (λ k y q called. search rules) g.row.N _ c.from_fn.ensures.items
