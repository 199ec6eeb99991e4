-- Input read in chunks gives the lines of the whole input, whatever the chunks: 129 bytes of a line are enough to carry.
-- Assumes nothing.
use Prim.Native.Nat.{ℕ}
use native.Mathlib.Omega.{arith}
use mathlib.Core.List.{List, [], ◌∷◌, ◌++◌, map, map-append, append_assoc, append-nil}
use mathlib.Core.Path.{◌≡◌, refl, sym, ap, ◌∙◌}
use lib.ListN.{length, take, drop, length-append}
use lib.Seq.{take_all, length-take-le}
use Rattle.cells.proofs.Cases.{same?, at_most?}
use Rattle.cells.proofs.Lists.{all_take}
use Rattle.cells.specs.Lists.{All}
use Rattle.script.specs.Grammar.{in_front, pieces, up_to, after, read_line}
use Rattle.script.specs.Chunks.{ended, rest, ending, lines_of, joined, chunked}
use Rattle.std.specs.Prelude.{Option}
use Rattle.script.specs.declared.reading.Line.{Line}
use Rattle.script.proofs.Lines.{read-long}
use Rattle.script.proofs.Pieces.{pieces-stop, pieces-past, pieces-first}

module _ (sep : ℕ) where
  -- The last piece of a text goes on with the bytes that follow.
  goes_on : List ℕ → List (List ℕ) → List (List ℕ)
  goes_on t ps = ended ps ++ pieces sep (rest ps ++ t)

  goes-on-stop : (t p : List ℕ) (ps : List (List ℕ)) → [] ∷ goes_on t (p ∷ ps) ≡ goes_on t ([] ∷ (p ∷ ps))
  unfolding goes_on ended rest
  goes-on-stop t p ps = refl

  goes-on-past :
      (b : ℕ) (t p : List ℕ) (ps : List (List ℕ))
      → (b ≡ sep → ⊥)
      → in_front b (goes_on t (p ∷ ps)) ≡ goes_on t (in_front b (p ∷ ps))
  unfolding goes_on ended rest in_front
  goes-on-past b t p [] d = sym (pieces-past sep b (p ++ t) d)
  goes-on-past b t p (q ∷ qs) d = refl

  pieces-append : (s t : List ℕ) → pieces sep (s ++ t) ≡ goes_on t (pieces sep s)
  pieces-append [] t = unfold goes_on pieces ended rest in refl
  pieces-append (b ∷ s) t =
      same? b sep
      (λ e.
      rw (pieces-stop sep b (s ++ t) e, pieces-stop sep b s e, pieces-append s t, pieces-first sep s)
      (goes-on-stop t (up_to sep s) (after sep (drop (length (up_to sep s)) s))))
      (λ d.
      rw (pieces-past sep b (s ++ t) d, pieces-past sep b s d, pieces-append s t, pieces-first sep s)
      (goes-on-past b t (up_to sep s) (after sep (drop (length (up_to sep s)) s)) d))

  -- No byte is a separator.
  abbrev Free : List ℕ → Type 0
  Free s = All (λ (b : ℕ). b ≡ sep → ⊥) s

  -- The last piece has none.
  rest-past :
      (b : ℕ) (p : List ℕ) (ps : List (List ℕ))
      → (b ≡ sep → ⊥)
      → Free (rest (p ∷ ps))
      → Free (rest (in_front b (p ∷ ps)))
  unfolding rest in_front
  rest-past b p [] d f = (d, f)
  rest-past b p (q ∷ qs) d f = f

  rest-stop : (p : List ℕ) (ps : List (List ℕ)) → Free (rest (p ∷ ps)) → Free (rest ([] ∷ (p ∷ ps)))
  unfolding rest
  rest-stop p ps f = f

  rest-free : (s : List ℕ) → Free (rest (pieces sep s))
  rest-free [] = unfold pieces rest in tt
  rest-free (b ∷ s) =
      let f : Free (rest (up_to sep s ∷ after sep (drop (length (up_to sep s)) s))) = rw (pieces-first sep s) at (rest-free s) in
      same? b sep
      (λ e.
      rw (pieces-stop sep b s e, pieces-first sep s)
      (rest-stop (up_to sep s) (after sep (drop (length (up_to sep s)) s)) f))
      (λ d.
      rw (pieces-past sep b s d, pieces-first sep s)
      (rest-past b (up_to sep s) (after sep (drop (length (up_to sep s)) s)) d f))

  -- Bytes with no separator belong to the first piece.
  free-front :
      (f t p : List ℕ) (ps : List (List ℕ))
      → Free f
      → pieces sep t ≡ p ∷ ps
      → pieces sep (f ++ t) ≡ (f ++ p) ∷ ps
  free-front [] t p ps h e = e
  free-front (b ∷ f) t p ps h e =
      pieces-past sep b (f ++ t) h.0 ∙ rw (free-front f t p ps h.1 e) (unfold in_front in refl)

-- The lines of two texts: those that end in the first, and those of the rest with the second.
ended-append : (es : List (List ℕ)) (p : List ℕ) (ps : List (List ℕ)) → ended (es ++ (p ∷ ps)) ≡ es ++ ended (p ∷ ps)
unfolding ended
ended-append [] p ps = refl
ended-append (e ∷ []) p ps = refl
ended-append (e ∷ (f ∷ es)) p ps = ap (λ (l : List (List ℕ)). e ∷ l) (ended-append (f ∷ es) p ps)

rest-append : (es : List (List ℕ)) (p : List ℕ) (ps : List (List ℕ)) → rest (es ++ (p ∷ ps)) ≡ rest (p ∷ ps)
unfolding rest
rest-append [] p ps = refl
rest-append (e ∷ []) p ps = refl
rest-append (e ∷ (f ∷ es)) p ps = rest-append (f ∷ es) p ps

of-pieces : List (List ℕ) → List (List ℕ)
of-pieces ps = ended ps ++ ending (rest ps)

of-append : (es : List (List ℕ)) (p : List ℕ) (ps : List (List ℕ)) → of-pieces (es ++ (p ∷ ps)) ≡ es ++ of-pieces (p ∷ ps)
unfolding of-pieces
of-append es p ps =
    rw (ended-append es p ps, rest-append es p ps) (append_assoc es (ended (p ∷ ps)) (ending (rest (p ∷ ps))))

pub lines-append : (s t : List ℕ) → lines_of (s ++ t) ≡ ended (pieces 10 s) ++ lines_of (rest (pieces 10 s) ++ t)
unfolding lines_of goes_on of-pieces
lines-append s t =
    rw (pieces-append 10 s t, pieces-first 10 (rest (pieces 10 s) ++ t))
    (of-append (ended (pieces 10 s)) _ _)

-- A line reads the same where it is cut after 129 of its bytes and goes on from there.
pub read-cut : (f t : List ℕ) → read_line (f ++ t) ≡ read_line (take 129 f ++ t)
read-cut f t =
    at_most? (length f) 129
    (λ h. rw (take_all 129 f h))
    (λ h.
    read-long (f ++ t) (omega (arith, length-append f t))
    ∙ sym (read-long (take 129 f ++ t) (omega (arith, length-append (take 129 f) t, length-take-le 129 f (omega arith)))))

-- The readings of the lines, where the first piece is cut so.
ending-cut : (f t : List ℕ) → map read_line (ending (f ++ t)) ≡ map read_line (ending (take 129 f ++ t))
unfolding ending
ending-cut [] t = refl
ending-cut (b ∷ f) t = ap (λ (r : Option Line). r ∷ []) (read-cut (b ∷ f) t)

pieces-cut :
    (f t : List ℕ) (ps : List (List ℕ))
    → map read_line (of-pieces ((f ++ t) ∷ ps)) ≡ map read_line (of-pieces ((take 129 f ++ t) ∷ ps))
unfolding of-pieces ended rest
pieces-cut f t [] = ending-cut f t
pieces-cut f t (q ∷ qs) = ap (λ (r : Option Line). r ∷ map read_line (ended (q ∷ qs) ++ ending (rest (q ∷ qs)))) (read-cut f t)

lines_cut : (f t : List ℕ) → Free 10 f → map read_line (lines_of (take 129 f ++ t)) ≡ map read_line (lines_of (f ++ t))
unfolding lines_of of-pieces
lines_cut f t h =
    rw (
      free-front 10 f t _ _ h (pieces-first 10 t),
      free-front 10 (take 129 f) t _ _ (all_take (λ (b : ℕ). b ≡ 10 → ⊥) 129 f h) (pieces-first 10 t),
    )
    (sym (pieces-cut f (up_to 10 t) (after 10 (drop (length (up_to 10 t)) t))))

-- Bytes with no line feed are one line, or none.
lines-alone : (f : List ℕ) → Free 10 f → lines_of f ≡ ending f
unfolding lines_of ended rest
lines-alone f h = rw (alone f h)
  where
    alone : (f : List ℕ) → Free 10 f → pieces 10 f ≡ f ∷ []
    alone f h = rw (append-nil f) at (free-front 10 f [] [] [] h (unfold pieces in refl))

-- What is read from the chunks is what the lines of the whole read as.
pub chunked-lines :
    (held : List ℕ) (cs : List (List ℕ))
    → Free 10 held
    → chunked held cs ≡ map read_line (lines_of (held ++ joined cs))
unfolding chunked joined
chunked-lines held [] h = rw (append-nil held, lines-alone held h)
chunked-lines held (c ∷ cs) h =
    let text = held ++ c in
    let left = rest (pieces 10 text) in
    ap (λ (rs : List (Option Line)). map read_line (ended (pieces 10 text)) ++ rs)
    (chunked-lines (take 129 left) cs (all_take (λ (b : ℕ). b ≡ 10 → ⊥) 129 left (rest-free 10 text))
    ∙ lines_cut left (joined cs) (rest-free 10 text))
    ∙ sym (map-append read_line (ended (pieces 10 text)) (lines_of (left ++ joined cs)))
    ∙ ap (map read_line) (sym (lines-append text (joined cs)) ∙ ap lines_of (append_assoc held c (joined cs)))

pub whole-input : (cs : List (List ℕ)) → chunked [] cs ≡ map read_line (lines_of (joined cs))
whole-input cs = chunked-lines [] cs tt
