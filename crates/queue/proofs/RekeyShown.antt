-- A rekey on the words is the model's: what the heap asks of the words with the new key in them, and what the call has done afterwards.
-- Assumes nothing.
use Prim.Native.Nat.{ℕ, ◌+◌, ◌/◌, ◌≤◌, ◌<◌}
use native.Mathlib.Omega.{arith}
use mathlib.Core.Bool.{true, false, cond}
use mathlib.Core.List.{List}
use mathlib.Core.Logic.{◌≢◌}
use mathlib.Core.Path.{◌≡◌, refl, sym, ap, ◌∙◌}
use lib.Dec.{eqb, ltb}
use lib.ListN.{length, set, length-set}
use Rattle.cells.specs.Lists.{All, times}
use Rattle.cells.specs.Words.{word, put_word}
use Rattle.cells.specs.Stack.{link}
use Rattle.cells.specs.Store.{holds_ticket, spent}
use Rattle.cells.proofs.Cases.{same?}
use Rattle.cells.proofs.Lists.{all_map, all-every}
use Rattle.cells.proofs.Sums.{cond-bit}
use Rattle.cells.proofs.Chains.{chain-links}
use Rattle.cells.proofs.Places.{put-other-field}
use Rattle.cells.proofs.Rows.{Rewritten, rewritten-none, rewritten-put}
use Rattle.meaning.specs.Entries.{Entry}
use Rattle.meaning.specs.Plain.{refiled}
use Rattle.meaning.specs.Refusals.{first_of, Free, stale}
use Rattle.meaning.specs.Refusals as refusals
use Rattle.meaning.specs.Calls.{Call, Rekey, Refused, Changed, causes}
use Rattle.meaning.specs.Heap.{at, heap_rekey, heap_moves}
use Rattle.meaning.proofs.Given.{given-free}
use Rattle.heap.specs.Seats.{Walk}
use Rattle.heap.specs.Stands.{cells_of, Stands, Ranks, Apart}
use Rattle.heap.proofs.Carrying.{settle-carries}
use Rattle.meaning.proofs.ByPosition.{all-at, at-stands, one-position, at_all}
use Rattle.heap.proofs.Exchanges.{at_set, at_set_other, length-heap_rekey}
use Rattle.heap.proofs.Moves.{Differ}
use Rattle.heap.proofs.Permutes.{times-set}
use Rattle.heap.proofs.Seating.{all_set, all-exchange}
use Rattle.heap.proofs.Walks.{Comes}
use Rattle.queue.specs.Model.{Model, as_plain, counting, accepted_by, step, step_moves}
use Rattle.queue.specs.Shows.{Valid, Carried, Shows}
use Rattle.queue.specs.Answers.{told, refusal}
use Rattle.queue.specs.Promise.{Done}
use Rattle.queue.specs.declared.head.Head.{Head}
use Rattle.queue.proofs.Facts.{facts, valid-next}
use Rattle.queue.proofs.Refused.{refused-done}
use Rattle.queue.proofs.Named.{Held, held, lost}

-- The entry of cell c with another key and the counter's value for its order number.
abbrev pub rekeyed : List ℕ → Model → ℕ → ℕ → Entry
rekeyed w m c key = refiled key (as_plain m) (at m.heap (word w c 5))

-- The heap with it for the entry that it was.
abbrev pub rekeyed_heap : List ℕ → Model → ℕ → ℕ → List Entry
rekeyed_heap w m c key = set m.heap (word w c 5) (rekeyed w m c key)

-- The words with its order number and its key written.
abbrev pub rekeyed_words : Head → List ℕ → ℕ → ℕ → List ℕ
rekeyed_words h w c key = put_word (put_word w c 1 h.store.counter) c 2 key

-- The heap with that entry settled in it.
abbrev pub settled_heap : List ℕ → Model → ℕ → ℕ → List Entry
settled_heap w m c key = heap_rekey m.arity (word w c 5) (rekeyed w m c key) m.heap

-- The model afterwards.
abbrev pub rekeyed_model : List ℕ → Model → ℕ → ℕ → Model
rekeyed_model w m c key = counting m (settled_heap w m c key) m.free

-- The head with a number taken from the counter.
abbrev pub counted_head : Head → Head
counted_head h =
    record {
      arity = h.arity;
      count = h.count;
      store = record { cells = h.store.cells; free = h.store.free; counter = h.store.counter + 1 };
    }

-- What the heap's law asks before an entry is settled anew.
pub record RekeyReady (h : Head) (w : List ℕ) (m : Model) (c key : ℕ) : Type 0 where
  pub seat : word w c 5 < length m.heap
  pub cell : (rekeyed w m c key).cell ≡ (at m.heap (word w c 5)).cell
  pub ticket : (rekeyed w m c key).ticket ≡ (at m.heap (word w c 5)).ticket
  pub stands : Stands (rekeyed_words h w c key) (rekeyed_heap w m c key)
  pub ranks : All (Ranks (rekeyed_words h w c key)) (rekeyed_heap w m c key)
  pub apart : Apart (rekeyed_words h w c key) (rekeyed_heap w m c key)
  pub tickets : Differ m.heap
  pub limit : length m.heap ≤ 4096

-- What a call is given where no cause applies.
pub step-accepted : (call : Call) (m : Model) → Free (causes 64 6 call (as_plain m)) → step call m ≡ accepted_by call m
unfolding step
step-accepted call m f = given-free (λ i. record { answer = Refused i; next = m }) (accepted_by call m) (causes 64 6 call (as_plain m)) f

module _ (h : Head) (w : List ℕ) (m : Model) (s : Shows h w m) (c k key : ℕ) (own : Held w m c k) where
  -- The position that the cell knows is filled.
  seated : word w c 5 < length m.heap
  seated = rw own.known own.seat

  -- The cell's entry stands there.
  here : (at m.heap (word w c 5)).cell ≡ c
  here = rw own.known own.cell

  -- It is a cell of the memory.
  inside : c < length w / 8
  inside =
      rw here at
      (all-at (λ (x : Entry). x.cell < length w / 8) m.heap (facts h w m s).apart.inside (word w c 5) seated)

  -- The words of cell c with order number and key written, and all else as it was.
  written : Rewritten w c (λ (f : ℕ). cond (eqb 2 f) key (cond (eqb 1 f) h.store.counter (word w c f))) (rekeyed_words h w c key)
  written =
      rewritten-put w c _ _ 2 key (omega arith) inside
      (rewritten-put w c _ _ 1 h.store.counter (omega arith) inside (rewritten-none w c))

  -- Every other field of every cell is as it was.
  fields : (b f : ℕ) → f ≢ 1 → f ≢ 2 → word (rekeyed_words h w c key) b f ≡ word w b f
  fields b f n o =
      put-other-field (put_word w c 1 h.store.counter) c 2 key b f (λ e. o (sym e))
      ∙ put-other-field w c 1 h.store.counter b f (λ e. n (sym e))

  -- Every position has the cell that it had.
  cell_same : (q : ℕ) → (at (rekeyed_heap w m c key) q).cell ≡ (at m.heap q).cell
  unfolding refiled
  cell_same q =
      same? q (word w c 5)
      (λ e. rw e (ap (λ (x : Entry). x.cell) (at_set m.heap (word w c 5) (rekeyed w m c key) seated)))
      (λ n. ap (λ (x : Entry). x.cell) (at_set_other m.heap (word w c 5) q (rekeyed w m c key) n))

  -- The same cells are in use.
  cells_same : (b : ℕ) → times b (cells_of (rekeyed_heap w m c key)) ≡ times b (cells_of m.heap)
  unfolding times refiled
  cells_same b = omega (arith, times-set (λ (x : Entry). x.cell) b m.heap (word w c 5) (rekeyed w m c key) seated)

  -- The cell holds the entry with its new key.
  own-carried : Carried (rekeyed_words h w c key) (rekeyed w m c key)
  unfolding refiled as_plain
  own-carried =
      let old = all-at (Carried w) m.heap s.entries (word w c 5) seated in
      record {
        ticket = fields _ 0 (omega arith) (omega arith) ∙ old.ticket;
        order = rw here (written.here 1 ∙ s.counter);
        key = rw here (written.here 2);
        load = fields _ 3 (omega arith) (omega arith) ∙ old.load;
        unlinked = fields _ 4 (omega arith) (omega arith) ∙ old.unlinked;
        unused = fields _ 7 (omega arith) (omega arith) ∙ old.unused;
      }

  -- Each other cell holds the entry that it held.
  other-carried : (q : ℕ) → q < length m.heap → q ≢ word w c 5 → Carried (rekeyed_words h w c key) (at m.heap q)
  other-carried q l n =
      let old = all-at (Carried w) m.heap s.entries q l in
      let other : c ≢ (at m.heap q).cell =
      λ e. n (one-position (λ (x : Entry). x.cell) m.heap (facts h w m s).apart.apart q (word w c 5) l seated (sym e ∙ sym here)) in
      let same : (f : ℕ) → word (rekeyed_words h w c key) (at m.heap q).cell f ≡ word w (at m.heap q).cell f =
      λ f. written.others (at m.heap q).cell f other in
      record {
        ticket = same 0 ∙ old.ticket;
        order = same 1 ∙ old.order;
        key = same 2 ∙ old.key;
        load = same 3 ∙ old.load;
        unlinked = same 4 ∙ old.unlinked;
        unused = same 7 ∙ old.unused;
      }

  -- Each cell in use holds its entry.
  carried : All (Carried (rekeyed_words h w c key)) (rekeyed_heap w m c key)
  carried =
      let long = length-set m.heap (word w c 5) (rekeyed w m c key) in
      at_all _ (rekeyed_heap w m c key)
      (λ q l.
      same? q (word w c 5)
      (λ e. rw (e, at_set m.heap (word w c 5) (rekeyed w m c key) seated) own-carried)
      (λ n. rw (at_set_other m.heap (word w c 5) q (rekeyed w m c key) n) (other-carried q (omega arith) n)))

  -- The words are such as the heap's law asks for.
  pub rekey-ready : RekeyReady h w m c key
  unfolding refiled
  rekey-ready =
      let known = facts h w m s in
      let long = length-set m.heap (word w c 5) (rekeyed w m c key) in
      record {
        seat = seated;
        cell = refl;
        ticket = refl;
        stands =
            record {
              table = λ q l. fields q 6 (omega arith) (omega arith) ∙ s.seats.table q (omega arith) ∙ sym (cell_same q);
              place = λ q l. rw (cell_same q) (fields _ 5 (omega arith) (omega arith) ∙ s.seats.place q (omega arith));
            };
        ranks = all_map (λ e r. record { order = r.order; key = r.key }) (rekeyed_heap w m c key) carried;
        apart =
            record {
              room = rw (long, written.long) known.apart.room;
              inside =
                  rw written.long
                  (all_set (λ (x : Entry). x.cell < length w / 8) m.heap (word w c 5) (rekeyed w m c key)
                  (all-at (λ (x : Entry). x.cell < length w / 8) m.heap known.apart.inside (word w c 5) seated)
                  known.apart.inside);
              apart = λ b. rw (cells_same b) (known.apart.apart b);
            };
        tickets = known.tickets;
        limit = omega (arith, known.fits, known.limit);
      }

  -- A rekey that the counter allows is accepted.
  step-rekeys : spent h.store ≡ false → step (Rekey c k key) m ≡ record { answer = Changed; next = rekeyed_model w m c key }
  unfolding accepted_by causes stale refusals.spent spent as_plain
  step-rekeys unspent =
      step-accepted (Rekey c k key) m (own.live, (rw s.counter at unspent, tt)) ∙ rw own.known

  module _ (a : Walk)
      (comes :
      Comes (rekeyed_heap w m c key) (settled_heap w m c key) (rekeyed_words h w c key)
      (heap_moves m.heap (settled_heap w m c key)) a) where
    -- The walk and the writes leave every word of a cell but its rank, its position and the table's.
    kept : (b f : ℕ) → f ≢ 1 → f ≢ 2 → f ≢ 5 → f ≢ 6 → word a.words b f ≡ word w b f
    kept b f n o p q = comes.reseated.fields b f p q ∙ fields b f n o

    -- A free cell's words are 0 as they were.
    blank-kept : (b f : ℕ) → 1 ≤ times b m.free → f ≢ 4 → f ≢ 6 → word a.words b f ≡ 0
    blank-kept b f l n o =
        let idle : times b (cells_of m.heap) ≡ 0 = omega (arith, (facts h w m s).split b, cond-bit (ltb b m.cells)) in
        let other : c ≢ b =
        λ e. omega (arith, rw (here, e) at (at-stands (λ (x : Entry). x.cell) m.heap (word w c 5) seated)) in
        same? f 5
        (λ e.
        rw e
        (comes.reseated.places b (cells_same b ∙ idle)
        ∙ fields b 5 (omega arith) (omega arith)
        ∙ s.blank b 5 l (omega arith) (omega arith)))
        (λ d. comes.reseated.fields b f d o ∙ written.others b f other ∙ s.blank b f l n o)

    -- Each cell in use holds its entry, wherever that stands.
    entries-kept : All (Carried a.words) (settled_heap w m c key)
    unfolding heap_rekey
    entries-kept =
        let long = length-set m.heap (word w c 5) (rekeyed w m c key) in
        settle-carries (All (Carried a.words)) (all-exchange (Carried a.words)) m.arity (word w c 5) (rekeyed_heap w m c key)
        (omega (arith, seated))
        (all_map
        (λ e r.
        let same : (f : ℕ) → f ≢ 5 → f ≢ 6 → word a.words e.cell f ≡ word (rekeyed_words h w c key) e.cell f =
        λ f n o. comes.reseated.fields e.cell f n o in
        record {
          ticket = same 0 (omega arith) (omega arith) ∙ r.ticket;
          order = same 1 (omega arith) (omega arith) ∙ r.order;
          key = same 2 (omega arith) (omega arith) ∙ r.key;
          load = same 3 (omega arith) (omega arith) ∙ r.load;
          unlinked = same 4 (omega arith) (omega arith) ∙ r.unlinked;
          unused = same 7 (omega arith) (omega arith) ∙ r.unused;
        })
        (rekeyed_heap w m c key) carried)

    -- Head and words afterwards show the model afterwards.
    shows-after : Valid (rekeyed_model w m c key) → Shows (counted_head h) a.words (rekeyed_model w m c key)
    unfolding counting
    shows-after v =
        let long = length-heap_rekey m.arity (word w c 5) (rekeyed w m c key) m.heap in
        let short = length-set m.heap (word w c 5) (rekeyed w m c key) in
        record {
          arity = s.arity;
          count = s.count ∙ sym long;
          cells = s.cells;
          counter = omega (arith, s.counter);
          size = s.size ∙ ap (λ (n : ℕ). n / 8) (sym (comes.reseated.size ∙ written.long));
          free =
              chain-links (link w) (link a.words) h.store.free m.free
              (all-every _ (λ b. sym (kept b 4 (omega arith) (omega arith) (omega arith) (omega arith))) m.free)
              s.free;
          blank = blank-kept;
          entries = entries-kept;
          seats = comes.stands;
          beyond =
              λ p l.
              comes.reseated.table p (omega arith) ∙ fields p 6 (omega arith) (omega arith) ∙ s.beyond p (omega arith);
          valid = v;
        }

    -- An entry with another key that has settled in the words: the call is done.
    pub rekey-done : spent h.store ≡ false → Done (Rekey c k key) m (told Changed a.steps) (counted_head h) a.words
    unfolding told step_moves counting
    rekey-done unspent =
        let e = step-rekeys unspent in
        let v : Valid (rekeyed_model w m c key) = rw e at (valid-next (Rekey c k key) m tt s.valid) in
        record {
          answer = rw e;
          moves = rw e comes.counted;
          next = rw e (shows-after v);
        }

module _ (h : Head) (w : List ℕ) (m : Model) (s : Shows h w m) where
  -- A handle that names nothing is refused with 7.
  pub rekey-stale : (c k key : ℕ) → holds_ticket w h.store c k ≡ false → Done (Rekey c k key) m (refusal 7) h w
  unfolding step causes first_of stale as_plain
  rekey-stale c k key f = refused-done h w m s (Rekey c k key) 7 (rw (lost h w m s c k f))

  -- Where the counter is spent, a handle that names an entry is refused with 8.
  pub rekey-spent : (c k key : ℕ) → holds_ticket w h.store c k ≡ true → spent h.store ≡ true → Done (Rekey c k key) m (refusal 8) h w
  unfolding step causes first_of stale refusals.spent spent as_plain
  rekey-spent c k key t full = refused-done h w m s (Rekey c k key) 8 (rw ((held h w m s c k t).live, rw s.counter at full))
