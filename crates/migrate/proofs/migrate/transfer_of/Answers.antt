-- `migrate::migrate::transfer_of` meets its contract. Assumes nothing.
use Rattle.std.proofs.Common.{ap, ◌∙◌, replicate}
use Rattle.std.specs.Option.{unwrap_or}
use Rattle.migrate.specs.Lines.{transfer_of}
use Rattle.migrate.proofs.migrate.transfer_of.Goals as goal

pub returns : goal.returns
unfolding transfer_of
returns c = λ i. record { term = c.args.term; sink = c.args.sink; m = (c.unwrap_or.ensures ∙ ap (λ n. unwrap_or n (replicate 64 0)) c.net-netting.ensures) i; load = c.column_at-load.ensures i; holders = c.holders.ensures i }
