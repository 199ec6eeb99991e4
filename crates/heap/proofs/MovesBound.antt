-- The moves of put and rekey: how many they are, and that they are at most the levels of the heap.
-- Assumes nothing.
use Prim.Native.Nat.{ℕ, suc, ◌≤◌, ◌<◌}
use native.Mathlib.Omega.{arith}
use mathlib.Core.List.{List, [], ◌∷◌, ◌++◌, map}
use mathlib.Core.Path.{◌≡◌, sym, ap, ◌∙◌}
use lib.ListN.{length, set, length-append, length-set}
use lib.Seq.{get_or-set_same, get_or-set_other, map-set_same}
use Rattle.cells.specs.Lists.{times}
use Rattle.cells.proofs.Cases.{same?}
use Rattle.cells.proofs.Lists.{times-past, times-append}
use Rattle.meaning.specs.Entries.{Entry, nobody}
use Rattle.meaning.specs.Heap.{at, heap_put, heap_rekey, heap_moves, levels}
use Rattle.meaning.proofs.Handles.{ticket_of, map-append}
use Rattle.heap.proofs.Exchanges.{at-append}
use Rattle.heap.proofs.Levels.{steps-levels}
use Rattle.heap.proofs.Paths.{risen, settled, Path, rise-along, settle-along, risen-steps, risen-above, risen-path, settled-path, settled-steps}
use Rattle.heap.proofs.Displaced.{rise-same, settle-same}
use Rattle.heap.proofs.Moves.{Differ, moved-still, moves-most, moves-exactly, displaced, displaced-rest, displaced-filled, along-counts}

-- The positions that a new entry rises to.
abbrev pub put_path : ℕ → Entry → List Entry → List ℕ
put_path d e h = risen d (length h) (length h) (h ++ (e ∷ []))

-- The positions that an entry goes to with its new key.
abbrev pub rekey_path : ℕ → ℕ → Entry → List Entry → List ℕ
rekey_path d p e h = settled d p (set h p e)

module _ (d : ℕ) (e : Entry) (h : List Entry) where
  -- The moves of a put are at most the steps of the new entry.
  pub put-moves-steps : heap_moves h (heap_put d e h) ≤ length (put_path d e h)
  unfolding heap_put
  put-moves-steps =
      moves-most h (heap_put d e h) (put_path d e h) (risen-above d (length h) (length h) (h ++ (e ∷ [])))
      (λ r i z.
      moved-still (at h r) r (heap_put d e h)
      (ap ticket_of
      ((rise-same d (length h) (length h) (h ++ (e ∷ []))).elsewhere r
      (times-past r (length h) (put_path d e h) (λ q. omega arith) ∙ z)
      ∙ at-append h e r i)))

  -- The moves of a put are at most the levels after it.
  pub put-moves-levels : heap_moves h (heap_put d e h) ≤ levels d (suc (length h))
  put-moves-levels =
      omega (
        arith,
        put-moves-steps,
        risen-steps d (length h) (length h) (h ++ (e ∷ [])),
        steps-levels d (length h) (suc (length h)) (omega arith),
      )

  -- With another ticket than all others, they are exactly the steps of the new entry.
  pub put-moves : ((k : ℕ) → times k (e.ticket ∷ map ticket_of h) ≤ 1) → heap_moves h (heap_put d e h) ≡ length (put_path d e h)
  unfolding heap_put times
  put-moves u =
      moves-exactly h (heap_put d e h) ps (risen-above d n n g)
      (λ r i.
      rw (rise-along d n n g)
      (along-counts n ps g (risen-path d n n g inside) differ (at h r) r (ap ticket_of (sym (at-append h e r i)))
      ∙ displaced-rest r n ps (λ q. omega arith)))
    where
      n : ℕ
      n = length h

      g : List Entry
      g = h ++ (e ∷ [])

      ps : List ℕ
      ps = put_path d e h

      inside : n < length g
      inside = omega (arith, length-append h (e ∷ []))

      differ : Differ g
      differ k = rw (map-append ticket_of h (e ∷ [])) (omega (arith, u k, times-append k (map ticket_of h) (e.ticket ∷ [])))

module _ (d : ℕ) (some : 1 ≤ d) (p : ℕ) (e : Entry) (h : List Entry) (filled : p < length h) (own : e.ticket ≡ (at h p).ticket) where
  -- With the same ticket, every position has the ticket that it had.
  rekeyed-ticket : (r : ℕ) → (at (set h p e) r).ticket ≡ (at h r).ticket
  unfolding at
  rekeyed-ticket r =
      same? r p
      (λ q. rw q (ap ticket_of (get_or-set_same h p e nobody filled) ∙ own))
      (λ n. ap ticket_of (get_or-set_other h p r e nobody n))

  rekeyed-filled : p < length (set h p e)
  rekeyed-filled = simp length-set filled

  rekeyed-path : Path (length h) p (rekey_path d p e h)
  rekeyed-path = rw length-set at (settled-path d some p (set h p e) rekeyed-filled)

  -- The moves of a rekey are at most the levels.
  pub rekey-moves-levels : heap_moves h (heap_rekey d p e h) ≤ levels d (length h)
  unfolding heap_rekey
  rekey-moves-levels =
      let few = rw length-set at (settled-steps d some p (set h p e) rekeyed-filled) in
      let most =
      moves-most h (heap_rekey d p e h) (p ∷ rekey_path d p e h) rekeyed-path.filled
      (λ r i z.
      moved-still (at h r) r (heap_rekey d p e h)
      (ap ticket_of ((settle-same d p (set h p e)).elsewhere r z) ∙ rekeyed-ticket r)) in
      omega (arith, few, most)

  -- If tickets differ, they are exactly the entries that its path displaces.
  pub rekey-moves : Differ h → heap_moves h (heap_rekey d p e h) ≡ length (displaced p (rekey_path d p e h))
  unfolding heap_rekey at
  rekey-moves u =
      let same : map ticket_of (set h p e) ≡ map ticket_of h = map-set_same ticket_of h p e nobody own in
      moves-exactly h (heap_rekey d p e h) (displaced p (rekey_path d p e h))
      (displaced-filled (length h) p (rekey_path d p e h) rekeyed-path.filled)
      (λ r i.
      rw (settle-along d p (set h p e))
      (along-counts p (rekey_path d p e h) (set h p e) (settled-path d some p (set h p e) rekeyed-filled)
      (rw same u) (at h r) r (sym (rekeyed-ticket r))))
