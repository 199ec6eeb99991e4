-- The answer lines of the wheel's script, for each case of a call's answer.
-- Assumes nothing.
use Rattle.std.specs.Prelude.{ℕ, Bool, true, false, List, [], ◌∷◌, ◌++◌}
use Rattle.script.specs.Answers.{answer_line}
pub use Rattle.script.specs.Answers.{bad_text, refused_text}
use Rattle.meaning.specs.Calls.{Shown, Answer, Refused, Ready, Handle, Changed, Load, Shows, Advanced, Wakes}

-- `wheel n clock t`
abbrev pub ready_text : ℕ → ℕ → List ℕ
ready_text n t =
    answer_line (119 ∷ 104 ∷ 101 ∷ 101 ∷ 108 ∷ []) (n ∷ []) (32 ∷ 99 ∷ 108 ∷ 111 ∷ 99 ∷ 107 ∷ []) (t ∷ []) []

-- `armed cell ticket`
abbrev pub armed_text : ℕ → ℕ → List ℕ
armed_text c k = answer_line (97 ∷ 114 ∷ 109 ∷ 101 ∷ 100 ∷ []) (c ∷ k ∷ []) [] [] []

-- `load x`
abbrev pub load_text : ℕ → List ℕ
load_text x = answer_line (108 ∷ 111 ∷ 97 ∷ 100 ∷ []) (x ∷ []) [] [] []

-- `moved`
abbrev pub moved_text : List ℕ
moved_text = answer_line (109 ∷ 111 ∷ 118 ∷ 101 ∷ 100 ∷ []) [] [] [] []

-- `fired cell ticket deadline load`
abbrev pub fired_text : Shown → List ℕ
fired_text s = answer_line (102 ∷ 105 ∷ 114 ∷ 101 ∷ 100 ∷ []) (s.cell ∷ s.ticket ∷ s.key ∷ s.load ∷ []) [] [] []

-- "for G one line .. for each"
unfoldable pub fired_lines : List Shown → List ℕ
fired_lines [] = []
fired_lines (s ∷ ss) = fired_text s ++ fired_lines ss

-- ` done` or ` more`
unfoldable pub ending : Bool → List ℕ
ending true = 32 ∷ 100 ∷ 111 ∷ 110 ∷ 101 ∷ []
ending false = 32 ∷ 109 ∷ 111 ∷ 114 ∷ 101 ∷ []

-- `clock c moves m`, and how the advance ended
abbrev pub clock_text : ℕ → ℕ → List ℕ → List ℕ
clock_text c m last = answer_line (99 ∷ 108 ∷ 111 ∷ 99 ∷ 107 ∷ []) (c ∷ []) (32 ∷ 109 ∷ 111 ∷ 118 ∷ 101 ∷ 115 ∷ []) (m ∷ []) last

-- What is printed for a call's answer. No call of the script answers one of the three cases that print nothing.
unfoldable pub answer_text : Answer → List ℕ
answer_text (Refused i) = refused_text i
answer_text Ready = []
answer_text (Handle c k) = armed_text c k
answer_text Changed = moved_text
answer_text (Load x) = load_text x
answer_text (Shows s) = []
answer_text (Advanced r) = fired_lines r.fired ++ clock_text r.clock r.moves (ending r.done)
answer_text (Wakes w) = []
