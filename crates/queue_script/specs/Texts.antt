-- The answer lines of the queue's script, for each case of what a call tells.
-- Assumes nothing.
use Rattle.std.specs.Prelude.{ℕ, Bool, true, false, List, [], ◌∷◌}
use Rattle.script.specs.Answers.{answer_line}
pub use Rattle.script.specs.Answers.{bad_text, refused_text}
use Rattle.meaning.specs.Calls.{
  Call,
  Put,
  First,
  Take,
  Rekey,
  Remove,
  Arm,
  Move,
  Cancel,
  Advance,
  NextWake,
  Shown,
  Answer,
  Refused,
  Ready,
  Handle,
  Changed,
  Load,
  Shows,
  Advanced,
  Wakes,
}
use Rattle.queue.specs.Answers.{Told}

-- `queue n arity d`
abbrev pub ready_text : ℕ → ℕ → List ℕ
ready_text n d =
    answer_line (113 ∷ 117 ∷ 101 ∷ 117 ∷ 101 ∷ []) (n ∷ []) (32 ∷ 97 ∷ 114 ∷ 105 ∷ 116 ∷ 121 ∷ []) (d ∷ []) []

-- ` moves m`, at the end of a line.
abbrev pub moving : List ℕ → List ℕ → ℕ → List ℕ
moving text ns m = answer_line text ns (32 ∷ 109 ∷ 111 ∷ 118 ∷ 101 ∷ 115 ∷ []) (m ∷ []) []

-- `put cell ticket moves m`
abbrev pub entered_text : ℕ → ℕ → ℕ → List ℕ
entered_text c k m = moving (112 ∷ 117 ∷ 116 ∷ []) (c ∷ k ∷ []) m

-- `first key cell ticket load`
abbrev pub stands_text : ℕ → ℕ → ℕ → ℕ → List ℕ
stands_text key c k x = answer_line (102 ∷ 105 ∷ 114 ∷ 115 ∷ 116 ∷ []) (key ∷ c ∷ k ∷ x ∷ []) [] [] []

-- `took key cell ticket load moves m`
abbrev pub took_text : ℕ → ℕ → ℕ → ℕ → ℕ → List ℕ
took_text key c k x m = moving (116 ∷ 111 ∷ 111 ∷ 107 ∷ []) (key ∷ c ∷ k ∷ x ∷ []) m

-- `rekeyed moves m`
abbrev pub rekeyed_text : ℕ → List ℕ
rekeyed_text m = moving (114 ∷ 101 ∷ 107 ∷ 101 ∷ 121 ∷ 101 ∷ 100 ∷ []) [] m

-- `load x moves m`
abbrev pub load_text : ℕ → ℕ → List ℕ
load_text x m = moving (108 ∷ 111 ∷ 97 ∷ 100 ∷ []) (x ∷ []) m

-- Whether a call is a take: an entry that it tells is printed as taken, and one that any other tells as looked at.
abbrev pub takes : Call → Bool
takes (Put key load) = false
takes First = false
takes Take = true
takes (Rekey c k key) = false
takes (Remove c k) = false
takes (Arm e x) = false
takes (Move c k e) = false
takes (Cancel c k) = false
takes (Advance t r) = false
takes NextWake = false

unfoldable pub shown_text : Bool → Shown → ℕ → List ℕ
shown_text true s m = took_text s.key s.cell s.ticket s.load m
shown_text false s m = stands_text s.key s.cell s.ticket s.load

-- What is printed for an answer and its moves. No call of the script answers one of the three cases that print nothing.
unfoldable pub answer_text : Bool → Answer → ℕ → List ℕ
answer_text b (Refused i) m = refused_text i
answer_text b Ready m = []
answer_text b (Handle c k) m = entered_text c k m
answer_text b Changed m = rekeyed_text m
answer_text b (Load x) m = load_text x m
answer_text b (Shows s) m = shown_text b s m
answer_text b (Advanced r) m = []
answer_text b (Wakes w) m = []

-- What is printed for what a call tells.
abbrev pub told_text : Bool → Told → List ℕ
told_text b t = answer_text b t.answer t.moves
