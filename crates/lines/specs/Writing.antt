-- Texts written into a lent buffer, one after another (01, Script and host).
use Rattle.std.specs.Prelude.{ℕ, ◌+◌, ◌≤◌, ◌≡◌, List, ◌++◌, length, take, drop}
use Rattle.lines.specs.declared.output.Output.{Output}

-- the output with a text at a place; the bytes before and after the text stay
unfoldable pub written_at : List ℕ → ℕ → List ℕ → List ℕ
written_at out at text = take at out ++ text ++ drop (at + length text) out

-- there is room for a text after what is written
abbrev pub HasRoom : Output → List ℕ → Type 0
HasRoom out text = out.length + length text ≤ length out.bytes.now

-- a text that there was room for stands after what was written before, in the same buffer
abbrev pub Wrote : Output → Output → List ℕ → Type 0
Wrote before after text =
    (after.bytes.ghost_name ≡ before.bytes.ghost_name)
    × HasRoom before text
    × (after.length ≡ before.length + length text)
    × (after.bytes.now ≡ written_at before.bytes.now before.length text)
