-- What a loop over the lines of a chunk goes by: from `at` on, the next line and those after it, or the rest that has no line feed yet.
-- Assumes nothing.
use Prim.Native.Nat.{ℕ, ◌+◌, ◌-◌, ◌≤◌, ◌<◌}
use native.Mathlib.Omega.{arith}
use native.Mathlib.Numerals.{add-one}
use mathlib.Core.List.{List, [], ◌∷◌}
use mathlib.Core.Path.{◌≡◌, refl, ap, ◌∙◌}
use lib.ListN.{length, take, drop, drop_of_length-le, length-drop}
use lib.Seq.{drop-cons, drop-drop, take_all}
use Rattle.script.specs.Grammar.{up_to, pieces, after}
use Rattle.script.specs.Chunks.{ended, rest}
use Rattle.script.proofs.Pieces.{pieces-first, piece_cut}

module _ (sep : ℕ) (s : List ℕ) (at end : ℕ) (e : end ≡ at + length (up_to sep (drop at s))) where
  -- The pieces from `at` on: the one up to `end`, and those after it.
  from-here : pieces sep (drop at s) ≡ take (end - at) (drop at s) ∷ after sep (drop end s)
  from-here =
      rw (piece_cut sep s at end e, e, ← drop-drop (length (up_to sep (drop at s))) at s) (pieces-first sep (drop at s))

  pub pieces-next : end < length s → pieces sep (drop at s) ≡ take (end - at) (drop at s) ∷ pieces sep (drop (end + 1) s)
  pieces-next h =
      from-here
      ∙ ap (λ (ps : List (List ℕ)). take (end - at) (drop at s) ∷ ps)
      (rw (drop-cons s end 0 h, add-one end) (unfold after in refl))

  pub pieces-last : length s ≤ end → pieces sep (drop at s) ≡ drop at s ∷ []
  pieces-last h =
      from-here
      ∙ rw (drop_of_length-le s h, take_all (end - at) (drop at s) (omega (arith, length-drop at s))) (unfold after in refl)

-- The lines that end in the chunk, and what is left after the last: one line more, or the rest itself.
ended-cons : (p : List ℕ) (sep : ℕ) (t : List ℕ) → ended (p ∷ pieces sep t) ≡ p ∷ ended (pieces sep t)
ended-cons p sep t = rw (pieces-first sep t) (unfold ended in refl)

rest-cons : (p : List ℕ) (sep : ℕ) (t : List ℕ) → rest (p ∷ pieces sep t) ≡ rest (pieces sep t)
rest-cons p sep t = rw (pieces-first sep t) (unfold rest in refl)

module _ (s : List ℕ) (at end : ℕ) (e : end ≡ at + length (up_to 10 (drop at s))) where
  pub ended-next : end < length s → ended (pieces 10 (drop at s)) ≡ take (end - at) (drop at s) ∷ ended (pieces 10 (drop (end + 1) s))
  ended-next h = rw (pieces-next 10 s at end e h) (ended-cons (take (end - at) (drop at s)) 10 (drop (end + 1) s))

  pub rest-next : end < length s → rest (pieces 10 (drop at s)) ≡ rest (pieces 10 (drop (end + 1) s))
  rest-next h = rw (pieces-next 10 s at end e h) (rest-cons (take (end - at) (drop at s)) 10 (drop (end + 1) s))

  pub ended-last : length s ≤ end → ended (pieces 10 (drop at s)) ≡ []
  ended-last h = rw (pieces-last 10 s at end e h) (unfold ended in refl)

  pub rest-last : length s ≤ end → rest (pieces 10 (drop at s)) ≡ drop at s
  rest-last h = rw (pieces-last 10 s at end e h) (unfold rest in refl)
