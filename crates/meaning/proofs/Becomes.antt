-- What a handle names after a change is what the change makes of the entry that it named.
-- Assumes nothing.
use Prim.Native.Nat.{ℕ, ◌≤◌, ◌<◌}
use native.Mathlib.Omega.{arith}
use mathlib.Core.Bool.{true, false, cond}
use mathlib.Core.Option.{Option, none, some, map}
use mathlib.Core.Path.{◌≡◌, refl, sym, ap, subst₂, ◌∙◌}
use lib.Dec.{eqb}
use lib.ListN.{take, drop, take-append-drop}
use borrow.Author.Tests.{eqb-true, eq-eqb}
use Rattle.cells.proofs.Cases.{test, clash, and-true}
use Rattle.meaning.specs.Entries.{Entry, names, named, without}
use Rattle.meaning.specs.Plain.{Plain, Change, stays, files, refiles, frees, hands, apply, filed, refiled}
use Rattle.meaning.specs.Refusals.{is_none}
use Rattle.meaning.specs.Calls.{Call, outcome, result}
use Rattle.meaning.proofs.Handles.{names-own, names-other, named-names, named-insert-other, named-insert-own, named-without-own, named-without-other, named-second, named-once}
use Rattle.meaning.specs.Kept.{Kept}
use Rattle.meaning.specs.Becomes.{same_handle, becomes}
use Rattle.meaning.proofs.Allowed.{Allowed, found}

same-handle : (c k c' k' : ℕ) → same_handle c k c' k' ≡ true → (c ≡ c') × (k ≡ k')
unfolding same_handle
same-handle c k c' k' e =
    let two = and-true (eqb c c') (eqb k k') e in
    (eqb-true c c' two.0, eqb-true k k' two.1)

-- An entry has one handle.
apart : (c k c' k' : ℕ) → same_handle c k c' k' ≡ false → (e : Entry) → names c' k' e ≡ true → names c k e ≡ false
unfolding same_handle
apart c k c' k' d e h =
    test (names c k e)
    (λ q.
    let mine = names-own c k e q in
    let theirs = names-own c' k' e h in
    clash (rw (eq-eqb c c' (sym mine.0 ∙ theirs.0)) (eq-eqb k k' (sym mine.1 ∙ theirs.1))) d)
    (λ q. q)

module _ (s : Plain) (kept : Kept s) (c k : ℕ) where
  -- Another key by this handle: it names the same cell, ticket and load with the new key.
  refile-own : (key : ℕ) → is_none (named c k s.entries) ≡ false
      → named c k (apply (refiles c k key) s).entries ≡ map (refiled key s) (named c k s.entries)
  unfolding apply refiled
  refile-own key a =
      let (e, q) = found (named c k s.entries) a in
      rw q
      (named-insert-own c k (refiled key s e) (without c k s.entries) (unfold names in named-names c k e s.entries q)
      (named-without-own c k s.entries (kept.tickets k)))

  -- Another key by another handle: nothing changes for this one.
  refile-other : (c' k' key : ℕ) → same_handle c k c' k' ≡ false → is_none (named c' k' s.entries) ≡ false
      → named c k (apply (refiles c' k' key) s).entries ≡ named c k s.entries
  unfolding apply refiled
  refile-other c' k' key d a =
      let (e, q) = found (named c' k' s.entries) a in
      rw q
      (named-insert-other c k (refiled key s e) (without c' k' s.entries)
      (unfold names in apart c k c' k' d e (named-names c' k' e s.entries q))
      ∙ named-without-other c' k' c k (apart c k c' k' d) s.entries)

  becomes-refiles : (c' k' key : ℕ) → is_none (named c' k' s.entries) ≡ false
      → named c k (apply (refiles c' k' key) s).entries ≡ becomes c k (refiles c' k' key) s (named c k s.entries)
  unfolding becomes
  becomes-refiles c' k' key a =
      test (same_handle c k c' k')
      (λ t.
      let two = same-handle c k c' k' t in
      rw t
      (subst₂
      (λ (x y : ℕ). is_none (named x y s.entries) ≡ false
      → named c k (apply (refiles x y key) s).entries ≡ map (refiled key s) (named c k s.entries))
      two.0 two.1 (refile-own key) a))
      (λ t. rw t (refile-other c' k' key t a))

  -- Given back: by this handle it names nothing any more, by another nothing changes.
  becomes-frees : (c' k' : ℕ) → named c k (apply (frees c' k') s).entries ≡ becomes c k (frees c' k') s (named c k s.entries)
  unfolding becomes apply
  becomes-frees c' k' =
      test (same_handle c k c' k')
      (λ t.
      let two = same-handle c k c' k' t in
      rw t
      (subst₂ (λ (x y : ℕ). named c k (without x y s.entries) ≡ none) two.0 two.1
      (named-without-own c k s.entries (kept.tickets k))))
      (λ t. rw t (named-without-other c' k' c k (apart c k c' k' t) s.entries))

  -- Handed out among the first it names nothing any more; else it names what it named.
  becomes-hands : (m t : ℕ) → named c k (apply (hands m t) s).entries ≡ becomes c k (hands m t) s (named c k s.entries)
  unfolding becomes apply is_none
  becomes-hands m t = go (named c k (take m s.entries)) refl
    where
      go : (o : Option Entry) → named c k (take m s.entries) ≡ o
          → named c k (drop m s.entries) ≡ cond (is_none (named c k (take m s.entries))) (named c k s.entries) none
      go none q =
          rw q
          (sym (named-second c k (take m s.entries) (drop m s.entries) q)
          ∙ ap (named c k) (take-append-drop m s.entries))
      go (some e) q =
          rw q
          (named-once c k e (take m s.entries) (drop m s.entries) (rw take-append-drop (kept.tickets k)) q)

  -- A new entry has a ticket of its own.
  becomes-files : (key load : ℕ) → k < s.counter → named c k (apply (files key load) s).entries ≡ named c k s.entries
  unfolding apply filed
  becomes-files key load h =
      named-insert-other c k (filed key load s) s.entries (names-other c k (filed key load s) (λ q. omega arith))

  -- What a handle that was given out names after a change is what the change makes of what it named.
  pub becomes-apply : (ch : Change) → Allowed ch s → k < s.counter → named c k (apply ch s).entries ≡ becomes c k ch s (named c k s.entries)
  becomes-apply stays a h = unfold apply becomes in refl
  becomes-apply (files key load) a h = becomes-files key load h ∙ (unfold becomes in refl)
  becomes-apply (refiles c' k' key) a h = becomes-refiles c' k' key a.0
  becomes-apply (frees c' k') a h = becomes-frees c' k'
  becomes-apply (hands m t) a h = becomes-hands m t

-- The counter never falls.
pub counter-apply : (ch : Change) (s : Plain) → s.counter ≤ (apply ch s).counter
unfolding apply
counter-apply stays s = omega arith
counter-apply (files key load) s = omega arith
counter-apply (refiles c k key) s = omega arith
counter-apply (frees c k) s = omega arith
counter-apply (hands m t) s = omega arith

pub counter-call : (b n : ℕ) (call : Call) (s : Plain) → s.counter ≤ (result b n call s).next.counter
unfolding result
counter-call b n call s = counter-apply (outcome b n call s).change s
