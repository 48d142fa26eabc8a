-- What a read puts into a part of a buffer stands after what was read before it. Assumes nothing.
use Rattle.std.proofs.Common.{◌≡◌, ℕ, ◌+◌, ◌-◌, ◌≤◌, List, ◌++◌, length, take, sym, ap, ◌∙◌, subst, le_refl, drop_at, length-take-le}
use Rattle.std.specs.declared.option.Option.{Option}
use borrow.Rule.Slice.PartMut.{put_mid, post_of}
use lib.Seq.{take-add, take-append-le}
use Rattle.std.specs.Io.KnownBytes.{Consumes}
use Rattle.std.proofs.KnownBytes.{Consumes-trans}
use Rattle.std.proofs.lemmas.Slice.{take-put_mid_below}

module _ (from n : ℕ) (buffer part : List ℕ) (within : from ≤ length buffer) (fits : n ≤ length part) where
  after : List ℕ
  after = put_mid from (length buffer - from) buffer part

  -- the bytes before stay, and the first of the part follow them
  joined : take from buffer ++ take n part ≡ take (from + n) after
  unfolding after
  joined =
      ap (λ bytes. bytes ++ take n part) (sym (take-put_mid_below from (length buffer - from) buffer part from (le_refl from) within))
      ∙ ap (λ bytes. take from after ++ bytes) (sym (ap (take n) (drop_at (take from buffer) (part ++ post_of from (length buffer - from) buffer) from (length-take-le from buffer within)) ∙ take-append-le n part (post_of from (length buffer - from) buffer) fits))
      ∙ sym (take-add from n after)

  pub read_more : (a b c : Option (List ℕ)) → Consumes a b (take from buffer) → Consumes b c (take n part) → Consumes a c (take (from + n) (put_mid from (length buffer - from) buffer part))
  unfolding after
  read_more a b c before more = subst (Consumes a c) joined (Consumes-trans a b c (take from buffer) (take n part) before more)
