-- `digits::write_decimal` meets its contract. The loop's invariant: the digits of what is left, and then those found, are the number's, and there is a place for each that is left. Assumes nothing.
use Prim.Native.Nat.{ℕ, ◌+◌, ◌-◌, ◌≤◌, ◌<◌}
use mathlib.Core.Path.{◌≡◌, refl, ◌∙◌}
use mathlib.Core.List.{List, ◌++◌, append-nil}
use native.Mathlib.Omega.{arith}
use lib.ListN.{length, set, take, drop, length-set, length-drop}
use lib.Seq.{take_all}
use Rattle.lines.specs.Text.{digit, digits_of, decimal}
use Rattle.lines.proofs.DigitLaws.{place_left, digit_found, first_found}
use Rattle.lines.proofs.WritingLaws.{wrote_as, room_for}
use Rattle.lines.proofs.digits.write_decimal.Goals as goal

part_is : (digits : List ℕ) (v first rest d : ℕ) → first ≤ 19 → length digits ≡ 20 → rest < 10 → d ≡ digit rest → digits_of (first + 1) rest ++ drop (first + 1) digits ≡ decimal v → take (20 - first) (drop first (set digits first d)) ≡ decimal v
part_is digits v first rest d low len small e inv =
    take_all (20 - first) (drop first (set digits first d)) (simp (length-drop, length-set) (omega arith))
    ∙ first_found digits first rest d (omega arith) small e
    ∙ inv

pub loop-rest-init : goal.loop-rest-init
unfolding decimal
loop-rest-init c =
    let twenty-digits : c.args.v < 100000000000000000000 = omega (arith, c.ranges.v.fits) in
    (omega arith, refl, twenty-digits, append-nil (digits_of 20 c.args.v))

pub loop-rest-preserved : goal.loop-rest-preserved
loop-rest-preserved c =
    let loop = c.loop-rest in
    let left = place_left loop.first loop.rest loop.invariant.2 (omega arith) in (
      omega arith,
      simp length-set loop.invariant.1,
      left.1,
      digit_found loop.digits loop.first loop.rest c.digit_byte.result left.0 (omega arith) (omega arith) c.digit_byte.ensures ∙ loop.invariant.3,
    )

pub write-requires : goal.write-requires
write-requires c =
    let loop = c.loop-rest in
    let found = c.digit_byte-2 in
    room_for c.args.out.now _ _ (part_is loop.digits c.args.v loop.first loop.rest found.result loop.invariant.0 loop.invariant.1 (omega arith) found.ensures loop.invariant.3) c.requires

pub returns : goal.returns
returns c =
    let loop = c.loop-rest in
    let found = c.digit_byte-2 in
    wrote_as c.args.out.now c.write.new.self _ _ (part_is loop.digits c.args.v loop.first loop.rest found.result loop.invariant.0 loop.invariant.1 (omega arith) found.ensures loop.invariant.3) c.write.ensures
