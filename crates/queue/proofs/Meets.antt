-- A model that means a plain list answers every call of the ready queue as the list does, and means the list afterwards.
-- Assumes nothing.
use Prim.Native.Nat.{ℕ, suc, ◌≤◌, ◌<◌}
use native.Mathlib.Omega.{arith}
use mathlib.Core.Bool.{Bool, true, false, cond}
use mathlib.Core.List.{List, [], ◌∷◌, map, tail}
use mathlib.Core.Option.{some}
use mathlib.Core.Path.{◌≡◌, refl, sym, ap, subst, ◌∙◌}
use lib.ListN.{length, take, drop}
use Rattle.cells.specs.Lists.{times}
use Rattle.cells.proofs.Cases.{clash}
use Rattle.meaning.specs.Entries.{Entry, insert, named, without, earliest}
use Rattle.meaning.specs.Plain.{Plain, apply, onto, filed, refiled}
use Rattle.meaning.specs.Refusals.{Cause, first_of, Free, is_empty, is_none, full, stale, spent, empty}
use Rattle.meaning.specs.Calls.{
  Call,
  Put,
  First,
  Take,
  Rekey,
  Remove,
  Arm,
  Move,
  Cancel,
  Advance,
  NextWake,
  Refused,
  Shows,
  shown,
  Outcome,
  causes,
  filing,
  refiling,
  freeing,
  accepted,
  refused,
  outcome,
  result,
}
use Rattle.meaning.specs.Heap.{at, heap_put, heap_remove, heap_rekey}
use Rattle.meaning.specs.Kept.{Kept}
use Rattle.meaning.proofs.Orders.{times-insert}
use Rattle.meaning.proofs.Handles.{times-without}
use Rattle.meaning.proofs.Allowed.{found}
use Rattle.queue.specs.Model.{Model, as_plain, seat_of, keeping, counting, Step, accepted_by, step}
use Rattle.meaning.specs.Arranged.{SameEntries}
use Rattle.queue.specs.Means.{Means, OfQueue}
use Rattle.heap.proofs.HeapKeeps.{put-in-order, remove-in-order, rekey-in-order}
use Rattle.heap.proofs.Permutes.{times-put, times-remove, times-rekey}
use Rattle.meaning.proofs.Same.{same_length, same-named}
use Rattle.queue.proofs.Seats.{seat-holds, root-earliest}

-- A list that is not empty has an entry.
pub filled : (es : List Entry) → is_empty es ≡ false → 0 < length es
unfolding is_empty
filled [] h = clash refl h
filled (e ∷ es) h = omega arith

-- Lists that are as long are both empty or neither.
empty-same : (xs ys : List Entry) → length xs ≡ length ys → is_empty xs ≡ is_empty ys
unfolding is_empty
empty-same [] [] h = refl
empty-same [] (y ∷ ys) h = absurd (omega arith)
empty-same (x ∷ xs) [] h = absurd (omega arith)
empty-same (x ∷ xs) (y ∷ ys) h = refl

-- The first handed out frees the cell of the earliest.
onto-first : (es : List Entry) (free : List ℕ) → 0 < length es → onto (take 1 es) free ≡ (earliest es).cell ∷ free
unfolding onto earliest
onto-first [] free l = absurd (omega arith)
onto-first (e ∷ es) free l = refl

module _ (d : ℕ) (h es : List Entry) (same : SameEntries h es) where
  -- An entry put into both leaves the same entries in both.
  pub same-put : (e : Entry) → SameEntries (heap_put d e h) (insert e es)
  unfolding times
  same-put e f k = omega (arith, times-put f k d e h, times-insert k f e es, same f k)

  -- So does the earliest taken from both.
  pub same-take : at h 0 ≡ earliest es → 0 < length es → SameEntries (heap_remove d 0 h) (drop 1 es)
  unfolding times
  same-take q l f k =
      omega (arith, same f k, rw q at (times-remove f k d 0 h (omega (arith, same_length h es same))), first es l)
    where
      first : (xs : List Entry) → 0 < length xs → times k (map f xs) ≡ times k (f (earliest xs) ∷ map f (drop 1 xs))
      first [] i = absurd (omega arith)
      first (x ∷ xs) i = unfold earliest in refl

  module _ (p c k : ℕ) (e : Entry) (l : p < length h) (here : at h p ≡ e) (there : named c k es ≡ some e) where
    -- So does the entry at p taken out of both.
    pub same-remove : SameEntries (heap_remove d p h) (without c k es)
    unfolding times
    same-remove f j = omega (arith, same f j, rw here at (times-remove f j d p h l), times-without c k j f e es there)

    -- So does another put in its place in both.
    pub same-rekey : (x : Entry) → SameEntries (heap_rekey d p x h) (insert x (without c k es))
    unfolding times
    same-rekey x f j =
        omega (
          arith,
          same f j,
          rw here at (times-rekey f j d p x h l),
          times-without c k j f e es there,
          times-insert j f x (without c k es),
        )

-- What two kinds of refusal have in common, and two acceptances where no cause applies, what is given has.
given_both : {A B : Type 0} (R : A → B → Type 0) (refuse : ℕ → A) (accept : A) (refuse' : ℕ → B) (accept' : B) (cs : List Cause)
    → ((i : ℕ) → R (refuse i) (refuse' i)) → (Free cs → R accept accept') → R (first_of cs refuse accept) (first_of cs refuse' accept')
unfolding first_of
given_both R refuse accept refuse' accept' [] r a = a tt
given_both R refuse accept refuse' accept' (c ∷ cs) r a =
    go c.applies refl (λ f. given_both R refuse accept refuse' accept' cs r f)
  where
    go : (t : Bool) → c.applies ≡ t
        → ((Free cs → R accept accept') → R (first_of cs refuse accept) (first_of cs refuse' accept'))
        → R (cond t (refuse c.number) (first_of cs refuse accept)) (cond t (refuse' c.number) (first_of cs refuse' accept'))
    go true e f = r c.number
    go false e f = f (λ g. a (e, g))

-- A step of the model agrees with what the plain list does: one answer, and the model means the list afterwards.
abbrev Agrees : Plain → Step → Outcome → Type 0
Agrees s x o = (x.answer ≡ o.answer) × Means x.next (apply o.change s)

module _ (m : Model) (s : Plain) (kept : Kept s) (r : Means m s) where
  -- Every handle names the same entry, or nothing, in both.
  pub means-named : (c k : ℕ) → named c k m.heap ≡ named c k s.entries
  means-named c k = same-named m.heap s.entries r.entries c k (kept.tickets k)

  -- Both have as many.
  pub means-length : length m.heap ≡ length s.entries
  means-length = same_length m.heap s.entries r.entries

  -- Tickets of the heap differ.
  pub means-tickets : (k : ℕ) → times k (map (λ (e : Entry). e.ticket) m.heap) ≤ 1
  means-tickets k = omega (arith, r.entries (λ (e : Entry). e.ticket) k, kept.tickets k)

  -- The root is the earliest entry.
  pub means-root : 0 < length s.entries → at m.heap 0 ≡ earliest s.entries
  means-root l = root-earliest m.arity m.heap s.entries r.entries kept.tickets r.ordered kept.ordered l

  -- The causes of a refusal are the same.
  pub means-causes : (call : Call) → OfQueue call → causes 64 6 call (as_plain m) ≡ causes 64 6 call s
  unfolding causes as_plain full spent empty stale
  means-causes (Put key load) q = rw (r.free, r.counter)
  means-causes First q = rw (empty-same m.heap s.entries means-length)
  means-causes Take q = rw (empty-same m.heap s.entries means-length)
  means-causes (Rekey c k key) q = rw (means-named c k, r.counter)
  means-causes (Remove c k) q = rw (means-named c k)
  means-causes (Arm e load) q = absurd q
  means-causes (Move c k e) q = absurd q
  means-causes (Cancel c k) q = absurd q
  means-causes (Advance t n) q = absurd q
  means-causes NextWake q = absurd q

  -- A new entry.
  pub meets-put : (key load : ℕ) → Agrees s (accepted_by (Put key load) m) (accepted 64 6 (Put key load) s)
  unfolding accepted_by accepted filing apply counting as_plain filed
  meets-put key load = (
    cc,
    record {
      some = r.some;
      most = r.most;
      ordered = put-in-order m.arity _ m.heap r.ordered;
      entries = rw (r.free, r.counter) (same-put m.arity m.heap s.entries r.entries (filed key load s));
      counter = ap suc r.counter;
      cells = r.cells;
      free = ap tail r.free;
    },
  )

  -- The earliest entry, looked at.
  pub meets-first : is_empty s.entries ≡ false → Agrees s (accepted_by First m) (accepted 64 6 First s)
  unfolding accepted_by accepted apply
  meets-first e = (ap (λ (x : Entry). Shows (shown x)) (means-root (filled s.entries e)), r)

  -- The earliest entry, taken.
  pub meets-take : is_empty s.entries ≡ false → Agrees s (accepted_by Take m) (accepted 64 6 Take s)
  unfolding accepted_by accepted apply keeping
  meets-take e =
      let l : 0 < length s.entries = filled s.entries e in
      let root : at m.heap 0 ≡ earliest s.entries = means-root l in (
        ap (λ (x : Entry). Shows (shown x)) root,
        record {
          some = r.some;
          most = r.most;
          ordered = remove-in-order m.arity (omega (arith, r.some)) 0 m.heap (omega (arith, means-length)) r.ordered;
          entries = same-take m.arity m.heap s.entries r.entries root l;
          counter = r.counter;
          cells = r.cells;
          free = cc (root, onto-first s.entries s.free l);
        },
      )

  module _ (c k : ℕ) (live : is_none (named c k s.entries) ≡ false) where
    -- An entry with another key.
    pub meets-rekey : (key : ℕ) → Agrees s (accepted_by (Rekey c k key) m) (accepted 64 6 (Rekey c k key) s)
    unfolding accepted_by accepted refiling apply counting as_plain refiled
    meets-rekey key =
        let (e, q) = found (named c k s.entries) live in
        let seat = seat-holds c k e m.heap (means-named c k ∙ q) in (
          refl,
          record {
            some = r.some;
            most = r.most;
            ordered = rekey-in-order m.arity (omega (arith, r.some)) (seat_of c k m.heap) _ m.heap seat.0 r.ordered;
            entries =
                rw (q, seat.1, r.counter)
                (same-rekey m.arity m.heap s.entries r.entries (seat_of c k m.heap) c k e seat.0 seat.1 q (refiled key s e));
            counter = ap suc r.counter;
            cells = r.cells;
            free = r.free;
          },
        )

    -- An entry given back.
    pub meets-remove : Agrees s (accepted_by (Remove c k) m) (accepted 64 6 (Remove c k) s)
    unfolding accepted_by accepted freeing apply keeping
    meets-remove =
        let (e, q) = found (named c k s.entries) live in
        let seat = seat-holds c k e m.heap (means-named c k ∙ q) in (
          rw (q, seat.1),
          record {
            some = r.some;
            most = r.most;
            ordered = remove-in-order m.arity (omega (arith, r.some)) (seat_of c k m.heap) m.heap seat.0 r.ordered;
            entries = same-remove m.arity m.heap s.entries r.entries (seat_of c k m.heap) c k e seat.0 seat.1 q;
            counter = r.counter;
            cells = r.cells;
            free = ap (λ (l : List ℕ). c ∷ l) r.free;
          },
        )

  -- Where no cause applies, the model and the plain list agree.
  meets-accepted : (call : Call) → OfQueue call → Free (causes 64 6 call s) → Agrees s (accepted_by call m) (accepted 64 6 call s)
  unfolding causes empty stale
  meets-accepted (Put key load) q f = meets-put key load
  meets-accepted First q f = meets-first f.0
  meets-accepted Take q f = meets-take f.0
  meets-accepted (Rekey c k key) q f = meets-rekey c k f.0 key
  meets-accepted (Remove c k) q f = meets-remove c k f.0
  meets-accepted (Arm e load) q f = absurd q
  meets-accepted (Move c k e) q f = absurd q
  meets-accepted (Cancel c k) q f = absurd q
  meets-accepted (Advance t n) q f = absurd q
  meets-accepted NextWake q f = absurd q

-- A call of the ready queue answers as on the plain list, and leaves a model that means the list afterwards.
pub meets : (call : Call) (m : Model) (s : Plain) → OfQueue call → Kept s → Means m s
    → ((step call m).answer ≡ (result 64 6 call s).answer) × Means (step call m).next (result 64 6 call s).next
unfolding step result outcome
meets call m s q kept r =
    let refuse : ℕ → Step = λ i. record { answer = Refused i; next = m } in
    subst
    (λ (cs : List Cause). Agrees s (first_of cs refuse (accepted_by call m)) (first_of (causes 64 6 call s) refused (accepted 64 6 call s)))
    (sym (means-causes m s kept r call q))
    (given_both (Agrees s) refuse (accepted_by call m) refused (accepted 64 6 call s) (causes 64 6 call s)
    (λ i. unfold refused apply in (refl, r))
    (meets-accepted m s kept r call q))
