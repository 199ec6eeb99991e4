-- The deadlines of one list as a span of ticks.
-- Assumes nothing.
use Rattle.std.specs.Prelude.{ℕ, Bool, ◌&&◌, ◌≡◌, leb}
use Rattle.wheel_rules.specs.AuditTests.{stands_in}
use Rattle.wheel_rules.specs.declared.span.Span.{Span}

-- A tick is one of the span.
unfoldable pub in_span : Span → ℕ → Bool
in_span s e = leb s.low e && leb e s.high

-- The ticks of the span are exactly the deadlines that may stand in list i at clock t.
pub record SpanOf (t i : ℕ) (s : Span) : Type 0 where
  pub exact : (e : ℕ) → in_span s e ≡ stands_in t i e
