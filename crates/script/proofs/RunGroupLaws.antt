-- A script's rest, group by group: what is answered and written so far, and what is left. Assumes nothing.
use Prim.Native.Nat.{ℕ, ◌+◌, ◌-◌, ◌≤◌, ◌<◌}
use mathlib.Core.Path.{◌≡◌, refl, sym, ap, ◌∙◌, subst}
use mathlib.Core.Bool.{Bool, false}
use mathlib.Core.List.{List, [], ◌∷◌, ◌++◌, map, append_assoc, append-nil}
use native.Mathlib.Omega.{arith}
use lib.ListN.{length, take, drop, replicate, length-drop}
use lib.Seq.{drop-drop}
use Rattle.records.specs.declared.setup.KeptOpening.{KeptOpening}
use Rattle.source_evidence.specs.declared.evidence.Entry.{Entry}
use Rattle.ledger.specs.Ledger.{empty_ledger}
use Rattle.ledger.specs.Season.{call, query}
use Rattle.slots.specs.Layout.{figure_count, posted_count, evidence_of}
use Rattle.book.specs.declared.book.Book.{Book}
use Rattle.records.specs.Answers.{Answer, answer_in}
use Rattle.book.specs.Reading.{book_in, book_of}
use Rattle.book.specs.Reachable.{Reachable}
use Rattle.book.proofs.EmptyBook.{empty_figures, empty_posted}
use Rattle.lines.specs.Rows.{rows_of}
use Rattle.lines.specs.Text.{lines_of, max_lines}
use Rattle.lines.specs.Reading.{next_row}
use Rattle.counted_lines.specs.Counted.{bytes_of_lines, rows_counted}
use Rattle.lines.specs.declared.output.Output.{Output}
use Rattle.lines.specs.Writing.{HasRoom, Wrote}
use Rattle.counted_lines.proofs.RowSteps.{first_row_lem, consumed_some, consumed_within}
use Rattle.counted_lines.proofs.LineBytes.{bytes_within, rows_after}
use Rattle.lines.proofs.FieldLaws.{rest_all}
use Rattle.lines.proofs.WritingLaws.{wrote_nothing, same_length, wrote_both, wrote_as}
use Rattle.groups.specs.Groups.{Group, unreadable_group, request, lines_counted, request_of, groups_from, groups_of}
use Rattle.script.specs.Answers.{text_of, texts_of}
use Rattle.script.specs.GroupTexts.{answers_of, text_from}
use Rattle.script.specs.Writing.{Writable, HasRoomForLines}
use Rattle.groups.specs.Outcome.{Answered, head_group, head_bytes, first_group, group_bytes, Answers, outcome_of_group}
use Rattle.groups.proofs.GroupLaws.{first_group_lem, drop_shorter}
use Rattle.script.proofs.GroupTextLaws.{group_reachable}
use Rattle.script.proofs.AnswerLaws.{refused_writable}
use Rattle.script.proofs.WritableLaws.{outcome_writable, query_writable}

-- what a group is answered fits its line
pub group_writable : (b : Book) → Reachable b → (g : Group) → Writable (answer_in (outcome_of_group b g).answer)
unfolding outcome_of_group answer_in
group_writable b r unreadable_group = refused_writable 1 (omega arith)
group_writable b r (request (call c)) = outcome_writable b r c
group_writable b r (request (query q)) = query_writable b r q

module _ (rest : List ℕ) (some : 1 ≤ length rest) where
  after_head : List ℕ
  after_head = drop (next_row rest).consumed rest

  -- the rows after the first group
  rows_left : rows_of (drop (group_bytes rest) rest) ≡ drop (lines_counted (next_row rest).row) (rows_of after_head)
  unfolding group_bytes head_bytes after_head
  rows_left = ap rows_of (sym (drop-drop (bytes_of_lines (lines_counted (next_row rest).row) after_head) (next_row rest).consumed rest)) ∙ rows_after (lines_counted (next_row rest).row) after_head

  pub groups_left : groups_of (rows_of rest) ≡ (first_group rest ∷ groups_of (rows_of (drop (group_bytes rest) rest)))
  unfolding first_group head_group rows_counted after_head
  groups_left =
      ap groups_of (first_row_lem rest some)
      ∙ first_group_lem (next_row rest).row (rows_of after_head)
      ∙ ap (λ rows. request_of (next_row rest).row (take (lines_counted (next_row rest).row) (rows_of after_head)) ∷ groups_of rows) (sym rows_left)

  pub rows_fewer : length (rows_of (drop (group_bytes rest) rest)) + 1 ≤ length (rows_of rest)
  unfolding after_head
  rows_fewer =
      let all = ap length (first_row_lem rest some) in
      let after = ap length rows_left in
      let shorter = drop_shorter (lines_counted (next_row rest).row) (rows_of after_head) in
      omega arith

  pub group_fits : group_bytes rest ≤ length rest
  unfolding group_bytes head_bytes
  group_fits =
      let within = bytes_within (lines_counted (next_row rest).row) (drop (next_row rest).consumed rest) in
      let left = length-drop (next_row rest).consumed rest in
      let own = consumed_within rest in
      omega arith

first_text : (b : Book) (g : Group) (groups : List Group) → texts_of (map answer_in (answers_of b (g ∷ groups))) ≡ text_of (answer_in (outcome_of_group b g).answer) ++ texts_of (map answer_in (answers_of (outcome_of_group b g).book groups))
unfolding answers_of texts_of
first_text b g groups = refl

pub text_more : (b : Book) (rest : List ℕ) → 1 ≤ length rest → text_from b rest ≡ text_of (answer_in (outcome_of_group b (first_group rest)).answer) ++ text_from (outcome_of_group b (first_group rest)).book (drop (group_bytes rest) rest)
unfolding text_from
text_more b rest some = ap (λ groups. texts_of (map answer_in (answers_of b groups))) (groups_left rest some) ∙ first_text b (first_group rest) (groups_of (rows_of (drop (group_bytes rest) rest)))

pub text_none : (b : Book) → text_from b [] ≡ []
unfolding text_from rows_of lines_of groups_of groups_from answers_of texts_of
text_none b = refl

-- what is known when some groups have been answered
pub record AnswersSoFar (all : List ℕ) (first : Book) (before after : Output) (b : Book) (rest : List ℕ) : Type 0 where
  pub reachable : Reachable b
  pub few : length (rows_of rest) ≤ max_lines
  pub room : HasRoomForLines after (length (rows_of rest))
  pub done : List ℕ
  pub wrote : Wrote before after done
  pub left : done ++ text_from b rest ≡ text_from first all

-- the same of the arrays that a run keeps: the book has some evidence, which a run does not keep
pub record RunSoFar (all : List ℕ) (first : Book) (before after : Output) (o : KeptOpening) (f : List ℕ) (m : List Bool) (rest : List ℕ) : Type 0 where
  pub evidence : List Entry
  pub so_far : AnswersSoFar all first before after (book_in o f m evidence) rest

-- arrays at 0, with nothing posted, are those of the book that was opened
opened_book : (o : KeptOpening) → book_of o empty_ledger ≡ book_in o (replicate figure_count 0) (replicate posted_count false) (evidence_of empty_ledger)
unfolding book_of
opened_book o = λ i. book_in o (sym empty_figures i) (sym empty_posted i) (evidence_of empty_ledger)

nothing : (rest : List ℕ) → length rest ≡ 0 → rest ≡ []
nothing [] e = refl
nothing (b ∷ rest) e = absurd (let z : ⊥ = omega arith in z)

-- and nothing is answered yet
module _ (all : List ℕ) (o : KeptOpening) (out : Output) where
  abbrev opened : Book
  opened = book_of o empty_ledger

  none-answered : Reachable opened → length (rows_of all) ≤ max_lines → HasRoomForLines out (length (rows_of all)) → AnswersSoFar all opened out out opened all
  none-answered r few room = record { reachable = r; few = few; room = room; done = []; wrote = wrote_nothing out (omega arith); left = refl }

  pub none_run : Reachable opened → length (rows_of all) ≤ max_lines → HasRoomForLines out (length (rows_of all)) → RunSoFar all opened out out o (replicate figure_count 0) (replicate posted_count false) all
  none_run r few room = record { evidence = evidence_of empty_ledger; so_far = subst (λ b. AnswersSoFar all opened out out b all) (opened_book o) (none-answered r few room) }

module _ (all : List ℕ) (first : Book) (before after : Output) (b : Book) (rest : List ℕ) (f : AnswersSoFar all first before after b rest) where
  module _ (some : 1 ≤ length rest) where
    turn-room : after.length + 16 ≤ length after.bytes.now
    turn-room = let room = f.room in let fewer = rows_fewer rest some in omega arith

    -- what the group is answered, the book that it leads to, and how many bytes it takes
    module _ (a : Answer) (next : Book) (consumed : ℕ) (answered : Answers b (first_group rest) a next) (taken : consumed ≡ group_bytes rest) where
      as-group : ◌≡◌ {A = Answered} (record { answer = a; book = next }) (outcome_of_group b (first_group rest))
      as-group = answered

      turn_some : 1 ≤ consumed
      unfolding group_bytes
      turn_some = let own = consumed_some rest some in omega (arith, taken)

      pub turn_within : consumed ≤ length rest
      turn_within = let fits = group_fits rest some in omega (arith, taken)

      turn-fits : Writable (answer_in a)
      turn-fits = subst (λ y. Writable (answer_in y.answer)) (sym as-group) (group_writable b f.reachable (first_group rest))

      abbrev text : List ℕ
      text = text_of (answer_in a)

      -- what writing the answer needs
      pub turn_writable : HasRoom after text
      turn_writable = let room = turn-room in let short = turn-fits.short in omega arith

      -- the part of the script that is left then
      abbrev part : List ℕ
      part = take (length rest - consumed) (drop consumed rest)

      part-is : part ≡ drop (group_bytes rest) rest
      part-is = rest_all rest consumed ∙ ap (λ n. drop n rest) taken

      pub turn_smaller : length part < length rest
      turn_smaller =
          let some = turn_some in
          let within = turn_within in
          let size = ap length (rest_all rest consumed) ∙ length-drop consumed rest in
          omega arith

      pub group_more : (last : Output) → Wrote after last text → AnswersSoFar all first before last next part
      group_more last wrote =
          let short = turn-fits.short in
          let fewer = rows_fewer rest some in
          let same_rows = ap (λ s. length (rows_of s)) part-is in
          let room = f.room in
          let few = f.few in
          let ends = wrote.2 in
          let same = same_length after last text wrote in
          record {
            reachable = subst (λ y. Reachable y.book) (sym as-group) (group_reachable b f.reachable (first_group rest));
            few = omega arith;
            room = omega arith;
            done = f.done ++ text;
            wrote = wrote_both before after f.done f.wrote last text wrote;
            left =
                append_assoc f.done text (text_from next part)
                ∙ ap (λ later. f.done ++ later) ((λ i. text_of (answer_in (as-group i).answer) ++ text_from (as-group i).book (part-is i)) ∙ sym (text_more b rest some))
                ∙ f.left;
          }

  -- where no bytes are left all groups are answered
  pub all_answered : length rest ≡ 0 → Wrote before after (text_from first all)
  all_answered gone =
      wrote_as before after _ _
      (sym (append-nil f.done) ∙ ap (λ later. f.done ++ later) (sym (ap (text_from b) (nothing rest gone) ∙ text_none b)) ∙ f.left)
      f.wrote
