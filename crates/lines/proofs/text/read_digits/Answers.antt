-- `lines::text::read_digits` meets its contract: the value of the digits read so far is below a power of ten, so that nine of them fit. Assumes nothing.
use mathlib.Core.Path.{◌≡◌, sym, ap, ◌∙◌}
use Prim.Native.Nat.{zero-le}
use native.Mathlib.Omega.{arith}
use lib.Seq.{length-take-le}
use Rattle.std.proofs.lemmas.List.{get_or-take}
use Rattle.tariff.specs.Ranges.{within}
use Rattle.lines.specs.Text.{is_digit}
use Rattle.lines.proofs.LeadingLaws.{below_limit}
use Rattle.lines.proofs.NumberLaws.{power_more, no_digits_yet, digit_more, digits_stop, digits_end}
use Rattle.lines.proofs.text.read_digits.Goals as goal

pub loop-i-init : goal.loop-i-init
loop-i-init c = (zero-le, omega arith, omega arith, omega arith, no_digits_yet _)

pub returns-then-not-is_ascii_digit : goal.returns-then-not-is_ascii_digit
unfolding is_digit within
returns-then-not-is_ascii_digit c =
    let reached = below_limit _ _ _ (omega arith) c.loop-i-test.true in
    let part = get_or-take c.min-limit.result c.args.rest.now c.loop-i.i 0 reached in
    digits_stop _ _ _ c.loop-i.invariant.4 (ap is_digit (sym part) ∙ sym c.if-not-is_ascii_digit.ensures.value) (omega arith) (omega arith)

pub loop-i-preserved : goal.loop-i-preserved
unfolding is_digit within
loop-i-preserved c =
    let reached = below_limit _ _ _ (omega arith) c.loop-i-test.true in
    let part = get_or-take c.min-limit.result c.args.rest.now c.loop-i.i 0 reached in
    rw part (
      omega arith,
      c.loop-i.invariant.1,
      c.loop-i.invariant.2,
      power_more _ _ _ c.loop-i.invariant.3 (omega (arith, c.if-not-is_ascii_digit.ensures.cases)),
      digit_more _ _ _ c.loop-i.invariant.4 (ap is_digit (sym part) ∙ sym c.if-not-is_ascii_digit.ensures.value) (omega arith) (omega arith),
    )

pub returns : goal.returns
returns c =
    let all = length-take-le c.min-limit.result c.args.rest.now (omega arith) in
    let done : c.loop-i.i ≡ c.min-limit.result = omega arith in
    ap (λ end. record { value = c.loop-i.value; end = end }) (sym done) ∙ digits_end _ _ _ c.loop-i.invariant.4 (omega arith)
