-- `lines::words::read_word` meets its contract: the number of the letters read so far is below a power of 32, so that eight of them fit. Assumes nothing.
use mathlib.Core.Path.{◌≡◌, sym, ap, ◌∙◌}
use Prim.Native.Nat.{zero-le}
use native.Mathlib.Omega.{arith}
use lib.Seq.{length-take-le}
use Rattle.std.proofs.lemmas.List.{get_or-take}
use Rattle.tariff.specs.Ranges.{within}
use Rattle.lines.specs.Words.{is_letter}
use Rattle.lines.proofs.LeadingLaws.{below_limit}
use Rattle.lines.proofs.WordLaws.{key_room, key_grows, no_letters_yet, letter_more, letters_stop, letters_end}
use Rattle.lines.proofs.words.read_word.Goals as goal

pub loop-i-init : goal.loop-i-init
loop-i-init c = (zero-le, omega arith, omega arith, omega arith, no_letters_yet _)

pub returns-then-not-is_ascii_lowercase : goal.returns-then-not-is_ascii_lowercase
unfolding is_letter within
returns-then-not-is_ascii_lowercase c =
    let reached = below_limit _ _ _ (omega arith) c.loop-i-test.true in
    let part = get_or-take c.min-limit.result c.args.rest.now c.loop-i.i 0 reached in
    letters_stop _ _ _ c.loop-i.invariant.4 (ap is_letter (sym part) ∙ sym c.if-not-is_ascii_lowercase.ensures.value) (omega arith) (omega arith)

pub overflow_mul-key : goal.overflow_mul-key
overflow_mul-key c =
    let reached = below_limit _ _ _ (omega arith) c.loop-i-test.true in
    let room = key_room _ _ c.loop-i.invariant.3 (omega arith) in
    omega (arith, room)

pub overflow_add-key-in-loop-i : goal.overflow_add-key-in-loop-i
overflow_add-key-in-loop-i c =
    let reached = below_limit _ _ _ (omega arith) c.loop-i-test.true in
    let room = key_room _ _ c.loop-i.invariant.3 (omega arith) in
    omega (arith, room)

pub loop-i-preserved : goal.loop-i-preserved
unfolding is_letter within
loop-i-preserved c =
    let reached = below_limit _ _ _ (omega arith) c.loop-i-test.true in
    let part = get_or-take c.min-limit.result c.args.rest.now c.loop-i.i 0 reached in
    rw part (
      omega arith,
      c.loop-i.invariant.1,
      c.loop-i.invariant.2,
      key_grows _ _ _ c.loop-i.invariant.3 (omega (arith, c.if-not-is_ascii_lowercase.ensures.cases)),
      letter_more _ _ _ c.loop-i.invariant.4 (ap is_letter (sym part) ∙ sym c.if-not-is_ascii_lowercase.ensures.value) (omega arith) (omega arith),
    )

pub returns : goal.returns
returns c =
    let all = length-take-le c.min-limit.result c.args.rest.now (omega arith) in
    let done : c.loop-i.i ≡ c.min-limit.result = omega arith in
    ap (λ end. record { value = c.loop-i.key; end = end }) (sym done) ∙ letters_end _ _ _ c.loop-i.invariant.4 (omega arith)
