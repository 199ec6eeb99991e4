-- What a call of the wheel promises, in place, quick or checked.
-- Assumes nothing.
use Rattle.std.specs.Prelude.{ℕ, ◌*◌, ◌/◌, List, ◌≡◌, length, drop, Result, Ok, Err}
use Rattle.cells.specs.declared.refusal.Refusal.{Refusal}
use Rattle.cells.specs.declared.refusal.Refusal.TheVariants as refusal
use Rattle.meaning.specs.Calls.{Call, Answer, Refused, Advance}
use Rattle.meaning.specs.Plain.{Plain}
use Rattle.slots.specs.Rings.{Lists}
use Rattle.dial.specs.Joined.{step}
use Rattle.dial.specs.declared.state.Dial.{Dial}
pub use Rattle.wheel_rules.specs.Shown.{DialShows}
use Rattle.wheel_rules.specs.Rules.{WheelSound}
use Rattle.wheel.specs.Answers.{told_advance, written}
use Rattle.wheel.specs.declared.head.Head.{Head}
use Rattle.wheel.specs.declared.head.Advanced.{Advanced}

-- The lists of a head.
unfoldable pub head_lists : Head → List ℕ → Lists
head_lists h w = record { words = w; first = h.first; last = h.last; marks = h.marks; due = h.dial.due }

-- What a call makes of a model: the answer is the model's, and what it leaves shows the next model.
pub record Done (call : Call) (m : Plain) (a : Answer) (l : Lists) (d : Dial) : Type 0 where
  pub answer : a ≡ (step call m).answer
  pub next : DialShows l d (step call m).next

-- From lists l and numbers d a call answers a and leaves l' and d'. "The last L mod 8 words are never touched."
pub record Promise (call : Call) (l : Lists) (d : Dial) (a : Answer) (l' : Lists) (d' : Dial) : Type 0 where
  pub size : length l'.words ≡ length l.words
  pub tail : drop (length l.words / 8 * 8) l'.words ≡ drop (length l.words / 8 * 8) l.words
  pub shown : (m : Plain) → DialShows l d m → Done call m a l' d'

-- An advance besides: the output keeps its length, and "words beyond the last record keep their contents".
pub record Advances (target : ℕ) (l : Lists) (d : Dial) (out : List ℕ) (a : Result Advanced Refusal) (l' : Lists) (d' : Dial)
    (out' : List ℕ) : Type 0 where
  pub promise : Promise (Advance target (length out / 4)) l d (told_advance a out') l' d'
  pub room : length out' ≡ length out
  pub beyond : (m : Plain) → DialShows l d m → drop (written a * 4) out' ≡ drop (written a * 4) out

-- No model is shown: head and memory don't pass the audit.
abbrev pub Broken : Lists → Dial → Type 0
Broken l d = (m : Plain) → DialShows l d m → ⊥

-- An audit before a call passes exactly if the rules hold; its refusal is 9.
abbrev pub Audited : Head → List ℕ → Result Unit Refusal → Type 0
Audited h w (Ok u) = WheelSound (head_lists h w) h.dial
Audited h w (Err r) = (r ≡ refusal.Unsound) × (WheelSound (head_lists h w) h.dial → ⊥)

-- "checked calls: head and memory don't pass the audit" gives 9, and "hands back the head unchanged and every lent word unchanged".
pub record Checked (call : Call) (h : Head) (w : List ℕ) (a : Answer) (h' : Head) (w' : List ℕ) : Type 0 where
  pub promise : Promise call (head_lists h w) h.dial a (head_lists h' w') h'.dial
  pub broken : Broken (head_lists h w) h.dial → (a ≡ Refused 9) × (h' ≡ h) × (w' ≡ w)

-- "output included"
pub record CheckedAdvance (target : ℕ) (h : Head) (w out : List ℕ) (a : Result Advanced Refusal) (h' : Head)
    (w' out' : List ℕ) : Type 0 where
  pub advances : Advances target (head_lists h w) h.dial out a (head_lists h' w') h'.dial out'
  pub broken : Broken (head_lists h w) h.dial → (a ≡ Err refusal.Unsound) × (h' ≡ h) × (w' ≡ w) × (out' ≡ out)
