-- A model is shown by lists and numbers of one kind only.
-- Assumes nothing.
use Prim.Native.Nat.{ℕ, ◌*◌, ◌/◌, ◌≤◌, ◌<◌}
use native.Mathlib.Omega.{arith}
use mathlib.Core.Path.{◌≡◌, sym, ◌∙◌}
use lib.ListN.{length, drop}
use Rattle.cells.specs.Lists.{times}
use Rattle.cells.specs.Words.{word}
use Rattle.cells.specs.Stack.{link}
use Rattle.cells.proofs.Cases.{same?}
use Rattle.cells.proofs.Chains.{chain-tops, chain-alike}
use Rattle.cells.proofs.Lists.{all-times}
use Rattle.cells.proofs.Places.{words-ext, each-field}
use Rattle.meaning.specs.Plain.{Plain}
use Rattle.meaning.specs.Heap.{at}
use Rattle.meaning.proofs.ByPosition.{all-at}
use Rattle.meaning.proofs.Stored.{cell-either}
use Rattle.slots.specs.Rings.{Lists}
use Rattle.slots.specs.declared.ring.Ends.{Ends}
use Rattle.slots.proofs.Standing.{one-links, one-lists, one_state}
use Rattle.dial.specs.Turns.{list_of}
use Rattle.dial.specs.Shows.{cells_at, Carried}
use Rattle.dial.proofs.Numbers.{number-most}
use Rattle.wheel_rules.specs.Shown.{DialShows}
use Rattle.dial.specs.declared.state.Dial.{Dial}
use Rattle.wheel_rules.proofs.ShownSound.{shown-stored, entry_listed}

-- The numbers of a head of their parts.
abbrev dial_of : (clock : ℕ) (due : Ends) (cells free counter : ℕ) → Dial
dial_of clock due cells free counter =
    record { clock = clock; due = due; store = record { cells = cells; free = free; counter = counter } }

-- Two with the same parts are one.
dial-same : (d d' : Dial) → d.clock ≡ d'.clock → d.due ≡ d'.due → d.store.cells ≡ d'.store.cells → d.store.free ≡ d'.store.free
    → d.store.counter ≡ d'.store.counter → d ≡ d'
dial-same d d' a b c e f =
    let whole : dial_of d.clock d.due d.store.cells d.store.free d.store.counter
    ≡ dial_of d'.clock d'.due d'.store.cells d'.store.free d'.store.counter = cc in
    whole

module _ (l l' : Lists) (d d' : Dial) (m : Plain) (s : DialShows l d m) (s' : DialShows l' d' m) where
  -- The words of an entry's cell are the same: those that tell of it, and its links in the list of its place.
  same-entry : (p : ℕ) → p < length m.entries → (f : ℕ) → f < 8 → word l.words (at m.entries p).cell f ≡ word l'.words (at m.entries p).cell f
  same-entry p k f h =
      let a = all-at (Carried l.words) m.entries s.entries p k in
      let b = all-at (Carried l'.words) m.entries s'.entries p k in
      let c : ℕ = (at m.entries p).cell in
      let i : ℕ = list_of m.clock (at m.entries p).key in
      let links =
      one-links l l' (cells_at m.clock m.entries) s.lists s'.lists i c
      (number-most m.clock (at m.entries p).key)
      (entry_listed l d m s p k) in
      each-field (λ (g : ℕ). word l.words c g ≡ word l'.words c g)
      (a.ticket ∙ sym b.ticket)
      (a.order ∙ sym b.order)
      (a.deadline ∙ sym b.deadline)
      (a.load ∙ sym b.load)
      links.0
      links.1
      (a.unowned ∙ sym b.unowned)
      (a.unused ∙ sym b.unused)
      f h

  -- So are those of a free cell.
  same-free : (c : ℕ) → 1 ≤ times c m.free → (f : ℕ) → word l.words c f ≡ word l'.words c f
  same-free c k f =
      same? f 4
      (λ e. rw e
      (all-times (λ (c : ℕ). link l.words c ≡ link l'.words c) m.free
      (chain-alike (link l.words) (link l'.words) d.store.free d'.store.free m.free s.free s'.free) c k))
      (λ n. s.blank c f k n ∙ sym (s'.blank c f k n))

  -- So is every word of every cell.
  same_word : (c f : ℕ) → c < length l.words / 8 → f < 8 → word l.words c f ≡ word l'.words c f
  same_word c f k h =
      cell-either m.cells m.entries m.free (shown-stored l d m s).cells c (omega (arith, s.size))
      (λ p i e o z. rw e at (same-entry p i f h))
      (λ z o. same-free c (omega arith) f)

  -- The numbers of the head are one, where the due list's ends are those of the lists.
  same-dial : l.due ≡ d.due → l'.due ≡ d'.due → d ≡ d'
  same-dial e e' =
      dial-same d d'
      (s.clock ∙ sym s'.clock)
      (sym e ∙ (one-lists l l' (cells_at m.clock m.entries) s.lists s'.lists).due ∙ e')
      (s.cells ∙ sym s'.cells)
      (chain-tops (link l.words) (link l'.words) d.store.free d'.store.free m.free s.free s'.free)
      (s.counter ∙ sym s'.counter)

-- A model is shown by one head only, and by one memory of each length, but for the words past the cells.
pub one-memory : (l l' : Lists) (d d' : Dial) (m : Plain) → DialShows l d m → DialShows l' d' m
    → l.due ≡ d.due
    → l'.due ≡ d'.due
    → length l.words ≡ length l'.words
    → drop (length l.words / 8 * 8) l.words ≡ drop (length l.words / 8 * 8) l'.words
    → (l ≡ l') × (d ≡ d')
one-memory l l' d d' m s s' e e' long past = (
  one_state l l' (cells_at m.clock m.entries) s.lists s'.lists
      (words-ext l.words l'.words long (same_word l l' d d' m s s') past),
  same-dial l l' d d' m s s' e e',
)
