-- What the store's and the heap's calls did comes to the promises of the queue's calls: one law for each way that a call may end.
-- Assumes nothing.
use Prim.Native.Nat.{ℕ, ◌+◌, ◌-◌, ◌<◌}
use native.Mathlib.Omega.{arith}
use mathlib.Core.Bool.{true, false}
use mathlib.Core.List.{List}
use mathlib.Core.Path.{◌≡◌, subst}
use lib.ListN.{length}
use Rattle.cells.specs.Words.{word, put_word}
use Rattle.cells.specs.Store.{no_free, spent, holds_ticket, draw_answer, draw_store, claim_answer, claim_store, claim_words, release_words, release_store}
use Rattle.cells.specs.declared.store.Store.{Store}
use Rattle.std.specs.Prelude.{Ok, Err}
use Rattle.cells.specs.Causes.{number_of}
use Rattle.cells.specs.declared.refusal.Refusal.{Refusal}
use Rattle.cells.specs.declared.refusal.Refusal.TheVariants as causes
use Rattle.cells.specs.declared.store.Handle as handles
use Rattle.cells.proofs.Cases.{test}
use Rattle.cells.proofs.Claims.{claim-full, claim-spent, claim-taken, draw-spent, draw-taken}
use Rattle.meaning.specs.Calls.{Call, Put, First, Take, Rekey, Remove, Handle, Changed, Load}
use Rattle.meaning.specs.Heap.{heap_remove, heap_moves}
use Rattle.heap.specs.Seats.{Walk, enter_walk, vacate_walk, resettle_walk}
use Rattle.heap.proofs.Walks.{Comes}
use Rattle.heap.proofs.PublicWalks.{enter-comes, vacate-comes, resettle-comes}
use Rattle.cells.proofs.Framed.{Framed, framed-none, framed-on, framed-put, entered-framed, released-framed}
use Rattle.heap.proofs.Frames.{enter-framed, vacate-framed, resettle-framed}
use Rattle.queue.specs.Model.{Model}
use Rattle.queue.specs.Shows.{Shows}
use Rattle.queue.specs.Answers.{Told, told, refusal, handed}
use Rattle.queue.specs.Promise.{Done, Promise}
use Rattle.queue.specs.Cells.{found_in}
use Rattle.queue.specs.declared.head.Found.{Found}
use Rattle.queue.specs.declared.head.Head.{Head}
use Rattle.queue.proofs.Facts.{facts}
use Rattle.queue.proofs.PutShown.{new_entry, put_words, put_full, put-spent, put-ready, put_walks, put-promised}
use Rattle.queue.proofs.LeaveShown.{leave-ready, first-empty, first_done, take-empty, take_done, remove-stale, remove-done}
use Rattle.queue.proofs.Named.{held, lost}
use Rattle.queue.proofs.RekeyShown.{rekeyed, rekeyed_heap, rekeyed_words, settled_heap, rekey-ready, rekey-done, rekey-stale, rekey-spent}

-- As many words and the same last ones, and what is done where a model is shown: that is a promise.
framed-promise : (call : Call) (h : Head) (w : List ℕ) (t : Told) (h' : Head) (w' : List ℕ) → Framed w w'
    → ((m : Model) → Shows h w m → Done call m t h' w') → Promise call h w t h' w'
framed-promise call h w t h' w' f shown = record { size = f.size; tail = f.tail; shown = shown }

-- A call that leaves the words as they were.
pub stays : (call : Call) (h : Head) (w : List ℕ) (t : Told) (h' : Head)
    → ((m : Model) → Shows h w m → Done call m t h' w) → Promise call h w t h' w
stays call h w t h' shown = framed-promise call h w t h' w (framed-none w) shown

-- No model is shown by a head with more entries than there may be cells.
pub over : (call : Call) (h : Head) (w : List ℕ) (t : Told) (h' : Head) → 4096 < h.count → Promise call h w t h' w
over call h w t h' l = stays call h w t h' (λ m s. absurd (omega (arith, l, s.count, (facts h w m s).fits, (facts h w m s).limit)))

-- The head with another store.
abbrev pub with_store : Head → Store → Head
with_store h s = record { arity = h.arity; count = h.count; store = s }

module _ (h : Head) (w : List ℕ) (key load : ℕ) where
  -- A put that the store refused.
  pub put_refused : (r : Refusal) (store : Store) (w₁ : List ℕ) → Err r ≡ claim_answer h.store → store ≡ claim_store w h.store
      → w₁ ≡ claim_words w h.store key load → Promise (Put key load) h w (refusal (number_of r)) (with_store h store) w₁
  put_refused r store w₁ q st x =
      test (no_free h.store)
      (λ none.
      let known = claim-full w h.store key load none in
      let cause : ◌≡◌ {A = Refusal} r causes.Full = cc in
      rw (x, st, known.1, known.2, cause) (stays (Put key load) h w (refusal 6) h (λ m s. put_full h w m s key load none)))
      (λ some.
      test (spent h.store)
      (λ full.
      let known = claim-spent w h.store key load some full in
      let cause : ◌≡◌ {A = Refusal} r causes.Spent = cc in
      rw (x, st, known.1, known.2, cause) (stays (Put key load) h w (refusal 8) h (λ m s. put-spent h w m s key load some full)))
      (λ left.
      let known = claim-taken w h.store key load some left in
      let z : ◌≡◌ {A = ℕ} 0 1 = cc in
      absurd (omega arith)))

  -- A put that took a cell, which then entered the heap.
  pub put-entered : (at : handles.Handle) (store : Store) (w₁ w₂ : List ℕ) (moves : ℕ) → Ok at ≡ claim_answer h.store
      → store ≡ claim_store w h.store → w₁ ≡ claim_words w h.store key load
      → w₂ ≡ (enter_walk h.arity h.count at.cell w₁).words → moves ≡ (enter_walk h.arity h.count at.cell w₁).steps
      → Promise (Put key load) h w (told (Handle at.cell at.ticket) moves) (record { arity = h.arity; count = h.count + 1; store = store }) w₂
  put-entered at store w₁ w₂ moves q st x y z =
      test (no_free h.store)
      (λ none.
      let known = claim-full w h.store key load none in
      let r : ◌≡◌ {A = ℕ} 0 1 = cc in
      absurd (omega arith))
      (λ some.
      test (spent h.store)
      (λ full.
      let known = claim-spent w h.store key load some full in
      let r : ◌≡◌ {A = ℕ} 0 1 = cc in
      absurd (omega arith))
      (λ left.
      let known = claim-taken w h.store key load some left in
      let whole : ◌≡◌ {A = handles.Handle} at (record { cell = h.store.free; ticket = h.store.counter }) = cc in
      let first : Framed w w₁ = rw (x, known.2) (entered-framed w h.store.free h.store.counter key load) in
      framed-promise (Put key load) h w _ _ w₂ (framed-on w w₁ w₂ first (rw y (enter-framed h.arity h.count at.cell w₁)))
      (rw (y, z, x, st, whole, known.1, known.2)
      (put-promised h w key load some left
      (λ m s.
      let r = put-ready h w m s key load some in
      let f = facts h w m s in
      put_walks h w m s key load some
      (enter-comes m.arity (new_entry key load m) m.heap (put_words h w key load)
      (record { some = omega (arith, f.some); few = f.most; fits = r.room })
      r.but r.ranks r.apart r.tickets))))))

-- The look at the first entry.
pub first-refused : (h : Head) (w : List ℕ) → h.count ≡ 0 → Promise First h w (refusal 10) h w
first-refused h w z = stays First h w (refusal 10) h (λ m s. first-empty h w m s z)

pub first-seen : (h : Head) (w : List ℕ) (c : ℕ) (f : Found) → 0 < h.count → c ≡ word w 0 6 → f ≡ found_in w c
    → Promise First h w (told (handed f) 0) h w
first-seen h w c f l e g = rw (g, e) (stays First h w _ h (λ m s. first_done h w m s l))

pub take-refused : (h : Head) (w : List ℕ) → h.count ≡ 0 → Promise Take h w (refusal 10) h w
take-refused h w z = stays Take h w (refusal 10) h (λ m s. take-empty h w m s z)

-- The heap's law where an entry leaves position p of a shown heap, in the head's numbers.
record Leaves (m : Model) (w : List ℕ) (p : ℕ) (a : Walk) : Type 0 where
  pub comes : Comes m.heap (heap_remove m.arity p m.heap) w (heap_moves m.heap (heap_remove m.arity p m.heap)) a
  pub gone : word a.words (length m.heap - 1) 6 ≡ 0

leaves : (h : Head) (w : List ℕ) (m : Model) (s : Shows h w m) (p : ℕ) → p < length m.heap
    → Leaves m w p (vacate_walk h.arity h.count p w)
leaves h w m s p l =
    let r = leave-ready h w m s p l in
    let v =
    vacate-comes m.arity p m.heap w (record { some = r.some; few = r.most; fits = r.few }) l
    (record { stands = r.seats; ranks = r.ranks; apart = r.apart }) r.differ r.issued in
    let same : vacate_walk m.arity (length m.heap) p w ≡ vacate_walk h.arity h.count p w = rw (s.arity, s.count) in
    subst (λ (a : Walk). Leaves m w p a) same (record { comes = v.comes; gone = v.gone })

-- The words after an entry left the heap and its cell went on the free stack.
left-framed : (h : Head) (w w₁ : List ℕ) (n p c : ℕ) → w₁ ≡ (vacate_walk h.arity n p w).words → Framed w (release_words w₁ h.store c)
left-framed h w w₁ n p c x =
    framed-on w w₁ _ (rw x (vacate-framed h.arity n p w)) (released-framed w₁ h.store c)

-- A take of the first entry.
pub taken : (h : Head) (w w₁ w₂ : List ℕ) (c moves : ℕ) (f : Found) (store : Store) → 0 < h.count
    → c ≡ word w 0 6 → f ≡ found_in w c
    → w₁ ≡ (vacate_walk h.arity h.count 0 w).words → moves ≡ (vacate_walk h.arity h.count 0 w).steps
    → store ≡ release_store h.store c → w₂ ≡ release_words w₁ h.store c
    → Promise Take h w (told (handed f) moves) (record { arity = h.arity; count = h.count - 1; store = store }) w₂
taken h w w₁ w₂ c moves f store l e g x y st z =
    framed-promise Take h w _ _ w₂ (rw z (left-framed h w w₁ h.count 0 c x))
    (λ m s.
    let v = leaves h w m s 0 (omega (arith, s.count)) in
    rw (z, x, y, st, g, e) (take_done h w m s l _ v.comes v.gone))

module _ (h : Head) (w : List ℕ) (c k : ℕ) where
  -- A handle that names nothing.
  pub remove-refused : holds_ticket w h.store c k ≡ false → Promise (Remove c k) h w (refusal 7) h w
  remove-refused e = stays (Remove c k) h w (refusal 7) h (λ m s. remove-stale h w m s c k (lost h w m s c k e))

  -- A handle that is held in a queue of no entries: no model is shown.
  pub remove-none : holds_ticket w h.store c k ≡ true → h.count ≡ 0 → Promise (Remove c k) h w (refusal 9) h w
  remove-none e z = stays (Remove c k) h w (refusal 9) h (λ m s. absurd (omega (arith, z, s.count, (held h w m s c k e).seat)))

  -- A remove of the entry that the handle names.
  pub removed : (w₁ w₂ : List ℕ) (load p moves : ℕ) (store : Store) → holds_ticket w h.store c k ≡ true
      → load ≡ word w c 3 → p ≡ word w c 5
      → w₁ ≡ (vacate_walk h.arity h.count p w).words → moves ≡ (vacate_walk h.arity h.count p w).steps
      → store ≡ release_store h.store c → w₂ ≡ release_words w₁ h.store c
      → Promise (Remove c k) h w (told (Load load) moves) (record { arity = h.arity; count = h.count - 1; store = store }) w₂
  removed w₁ w₂ load p moves store e a q x y st z =
      framed-promise (Remove c k) h w _ _ w₂ (rw z (left-framed h w w₁ h.count p c x))
      (λ m s.
      let own = held h w m s c k e in
      let v = leaves h w m s (word w c 5) (omega (arith, own.seat, own.known)) in
      rw (z, x, y, st, a, q) (remove-done h w m s c k own _ v.comes v.gone))

  module _ (key : ℕ) where
    -- A handle that names nothing.
    pub rekey-refused : holds_ticket w h.store c k ≡ false → Promise (Rekey c k key) h w (refusal 7) h w
    rekey-refused e = stays (Rekey c k key) h w (refusal 7) h (λ m s. rekey-stale h w m s c k key e)

    -- A counter that is spent.
    pub rekey-full : (r : Refusal) (store : Store) → holds_ticket w h.store c k ≡ true → Err r ≡ draw_answer h.store
        → store ≡ draw_store h.store → Promise (Rekey c k key) h w (refusal (number_of r)) (with_store h store) w
    rekey-full r store t q st =
        test (spent h.store)
        (λ full.
        let known = draw-spent h.store full in
        let cause : ◌≡◌ {A = Refusal} r causes.Spent = cc in
        rw (st, known.1, cause) (stays (Rekey c k key) h w (refusal 8) h (λ m s. rekey-spent h w m s c k key t full)))
        (λ left.
        let known = draw-taken h.store left in
        let z : ◌≡◌ {A = ℕ} 0 1 = cc in
        absurd (omega arith))

    -- A rekey of the entry that the handle names.
    pub rekeyed-all : (store : Store) (w₂ : List ℕ) (order moves : ℕ) → holds_ticket w h.store c k ≡ true
        → Ok order ≡ draw_answer h.store → store ≡ draw_store h.store
        → w₂ ≡ (resettle_walk h.arity h.count (word w c 5) c (put_word (put_word w c 1 order) c 2 key)).words
        → moves ≡ (resettle_walk h.arity h.count (word w c 5) c (put_word (put_word w c 1 order) c 2 key)).steps
        → Promise (Rekey c k key) h w (told Changed moves) (with_store h store) w₂
    rekeyed-all store w₂ order moves t q st x y =
        test (spent h.store)
        (λ full.
        let known = draw-spent h.store full in
        let z : ◌≡◌ {A = ℕ} 0 1 = cc in
        absurd (omega arith))
        (λ left.
        let known = draw-taken h.store left in
        let number : ◌≡◌ {A = ℕ} order h.store.counter = cc in
        let w₁ : List ℕ = put_word (put_word w c 1 order) c 2 key in
        let first : Framed w w₁ = framed-on w _ w₁ (framed-put w c 1 order) (framed-put _ c 2 key) in
        framed-promise (Rekey c k key) h w _ _ w₂
        (framed-on w w₁ w₂ first (rw x (resettle-framed h.arity h.count (word w c 5) c w₁)))
        (λ m s.
        let own = held h w m s c k t in
        let r = rekey-ready h w m s c k key own in
        let f = facts h w m s in
        let same :
        resettle_walk m.arity (length m.heap) (word w c 5) (rekeyed w m c key).cell (rekeyed_words h w c key)
        ≡ resettle_walk h.arity h.count (word w c 5) c (rekeyed_words h w c key) =
        rw (s.arity, s.count, r.cell, own.known, own.cell) in
        rw (x, y, st, known.1, number)
        (rekey-done h w m s c k key own _
        (subst (λ (a : Walk). Comes (rekeyed_heap w m c key) (settled_heap w m c key) (rekeyed_words h w c key) (heap_moves m.heap (settled_heap w m c key)) a)
        same
        (resettle-comes m.arity (word w c 5) (rekeyed w m c key) m.heap (rekeyed_words h w c key)
        (record { some = omega (arith, f.some); few = f.most; fits = r.limit })
        r.seat r.ticket (record { stands = r.stands; ranks = r.ranks; apart = r.apart }) r.tickets))
        left)))
