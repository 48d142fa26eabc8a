-- Two kinds of lines are compared by their numbers. Assumes nothing.
use mathlib.Core.Path.{◌≡◌, refl, ap, ap₂}
use mathlib.Core.Bool.{Bool, true, false}
use borrow.Author.Tests.{eq-eqb}
use denote.Enum.Bare.{sameb, same_true}
use denote.Enum.Declared.{tag_of}
use lib.Dec.{eqb}
use Rattle.lines.specs.declared.rows.LineKind.{LineKind}
use Rattle.lines.specs.declared.rows.LineKind.TheVariants.{Unreadable, Book, Holder, Sink, Path, Load, Block, Carry, Prior, Verify, Migrate, Class, Open, Nominate, Award, Close, Limit, Held, Net, Set, BrokenSet}
use Rattle.lines.specs.contracts.rows.LineKind.{the_type}
use Rattle.lines.specs.Rows.{kind_number, same_kind}

number_is : (kind : LineKind) → tag_of the_type kind ≡ kind_number kind
number_is Unreadable = refl
number_is Book = refl
number_is Holder = refl
number_is Sink = refl
number_is Path = refl
number_is Load = refl
number_is Block = refl
number_is Carry = refl
number_is Prior = refl
number_is Verify = refl
number_is Migrate = refl
number_is Class = refl
number_is Open = refl
number_is Nominate = refl
number_is Award = refl
number_is Close = refl
number_is Limit = refl
number_is Held = refl
number_is Net = refl
number_is Set = refl
number_is BrokenSet = refl

-- what `==` says of two kinds
pub kinds_compared : (a b : LineKind) → sameb the_type a b ≡ same_kind a b
kinds_compared a b = ap₂ eqb (number_is a) (number_is b)

pub is_same_kind : (a b : LineKind) → a ≡ b → same_kind a b ≡ true
is_same_kind a b e = eq-eqb (kind_number a) (kind_number b) (ap kind_number e)

pub other_kind : (a b : LineKind) → (a ≡ b → ⊥) → same_kind a b ≡ false
other_kind a b other = go (same_kind a b) (kinds_compared a b)
  where
    go : (t : Bool) → sameb the_type a b ≡ t → t ≡ false
    go true e = absurd (other (same_true the_type tt a b e))
    go false e = refl
