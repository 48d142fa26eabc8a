-- The watts of a line in range fit 64 bits. Assumes nothing.
use Prim.Native.Nat.{ℕ, ◌*◌, ◌≤◌}
use native.Mathlib.Nat.{mul-le-mul}

-- customers times watts of a line in range
pub line_product : {a b : ℕ} → a ≤ 9999999 → b ≤ 9999999 → a * b ≤ 9999999 * 9999999
line_product l m = mul-le-mul l m
