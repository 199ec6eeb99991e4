-- One law for each way out. Assumes nothing.
use Rattle.audits.proofs.Sweeps.{visits-free, visits-entry, visits-broken}
use Rattle.audits.proofs.sweep.Pass.visit.Goals as goal

pub returns-then-is_free : goal.returns-then-is_free
returns-then-is_free c = visits-free _ _ _ _ _ _ _ _ _ c.is_free.ensures c.if-is_free.true

pub returns-then-not-entry_sound : goal.returns-then-not-entry_sound
returns-then-not-entry_sound c =
    visits-broken _ _ _ _ _ _ _ _ _ c.is_free.ensures _ c.entry_sound.ensures c.if-is_free.false c.if-not-entry_sound.true

pub returns : goal.returns
returns c =
    visits-entry _ _ _ _ _ _ _ _ _ c.is_free.ensures _ c.entry_sound.ensures c.if-is_free.false _ _ _
    c.if-not-entry_sound.false c.enter_both.ensures
