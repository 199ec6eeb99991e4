-- Where the quotients above p differ the level is above p, and where they agree it is p.
use Rattle.std.proofs.Common.{ℕ, suc, ◌/◌, ◌%◌, ◌^◌, ◌≤◌, ◌≢◌, arith, sym, ap, ◌∙◌, add-one}
use Rattle.places.specs.Ticks.{level as level_of}
use Rattle.places.proofs.Digits.{quotient-next}
use Rattle.places.proofs.Levels.{level-below, level-most, level-reach, level-low}
use Rattle.places.proofs.level.Goals as goal

pub loop-t-preserved : goal.loop-t-preserved
loop-t-preserved c =
    let i = c.loop-t.invariant in
    let p : ℕ = c.loop-t.p in
    let t' : ℕ = c.args.clock % 64 ^ 6 in
    let e' : ℕ = c.args.deadline % 64 ^ 6 in
    let differ : t' / 64 ^ suc p ≢ e' / 64 ^ suc p = λ s. c.loop-t-test.true (i.0 ∙ s ∙ sym i.1) in
    let far : suc p ≤ level_of 64 6 t' e' = level-reach 64 6 t' e' (suc p) (omega arith) (omega arith) differ in
    rw (add-one p) (
      ap (λ (q : ℕ). q / 64) i.0 ∙ sym (quotient-next 64 (suc p) t'),
      ap (λ (q : ℕ). q / 64) i.1 ∙ sym (quotient-next 64 (suc p) e'),
      far,
      omega (arith, level-below 64 6 t' e' (omega arith)),
    )

pub returns : goal.returns
returns c =
    let i = c.loop-t.invariant in
    let t' : ℕ = c.args.clock % 64 ^ 6 in
    let e' : ℕ = c.args.deadline % 64 ^ 6 in
    let most = level-most 64 6 t' e' c.loop-t.p (sym i.0 ∙ c.loop-t-test.false ∙ i.1) in
    omega (arith, most, level-low 64 6 c.args.clock c.args.deadline (omega arith))
