-- What stands in a table of numbers.
use Rattle.std.specs.Prelude.{ℕ, ◌-◌, cond, List, [], leb, length, take, drop}

-- so many numbers from a start on, none where the table does not have that many there
unfoldable pub part_of : List ℕ → ℕ → ℕ → List ℕ
part_of table start count = cond (leb start (length table)) (cond (leb count (length table - start)) (take count (drop start table)) []) []
