-- What class lines in five slices transfer.
use Rattle.std.specs.Prelude.{ℕ, ◌+◌, List, replicate}
use Rattle.std.specs.Option.{unwrap_or}
use Rattle.tariff.specs.Sizes.{holder_pairs}
use Rattle.netting.specs.declared.netting.ClassColumns.{ClassColumns}
use Rattle.netting.specs.Netting.{netting_of}
use Rattle.transfers.specs.declared.transfers.Transfer.{Transfer}
use Rattle.records.specs.declared.setup.KeptOpening.{KeptOpening}
use Rattle.records.specs.Opening.{opening_in}
use Rattle.slots.specs.Layout.{load_slot}
use Rattle.transfers.specs.Columns.{column_at}

-- the causes that are found before anything is netted come first: 2, 3, 4 and 8
abbrev pub early_causes : ℕ
early_causes = 4

-- what a migration transfers: the m of each pair, 0 where the lines are unfit, and the loads at the sink and term before it
unfoldable pub transfer_of : KeptOpening → List ℕ → ℕ → ℕ → List ℕ → List ℕ → List ℕ → List ℕ → List ℕ → Transfer
transfer_of o f term sink froms tos classes customers watts =
    record {
      term = term;
      sink = sink;
      m = unwrap_or (netting_of froms tos classes customers watts) (replicate holder_pairs 0);
      load = column_at f sink (load_slot + term);
      holders = (opening_in o).holders;
    }

abbrev pub transfer_in : KeptOpening → List ℕ → ℕ → ℕ → ClassColumns → Transfer
transfer_in o f term sink c = transfer_of o f term sink c.froms.now c.tos.now c.classes.now c.customers.now c.watts.now
