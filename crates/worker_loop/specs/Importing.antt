-- The packets that were read and wait to be taken in.
use Rattle.std.specs.Prelude.{◌≡◌, ◌⊎◌, ℕ, ◌≤◌, List, map, length, Some, All, Contains}
use Rattle.trace_core.specs.Known.{Known, item_at, tag_of}
use Rattle.trace_core.specs.Trace.{known_of}
use Rattle.trace_core.specs.declared.derivation.Step.{Step}
use Rattle.trace_trim.specs.Packed.{ends_in}
use Rattle.session.specs.Fronts.{IsFront}
use Rattle.session.specs.Sharing.{IsHeld, IsTakable}
use Rattle.session.specs.Solver.{packet_at}
use Rattle.worker_loop.specs.declared.bench.Bench.{Bench}
use Rattle.worker_loop.specs.Fits.{read_by}

-- Each packet that was read with a tag up to the bound can be taken in.
abbrev pub AreTakable : Bench → Type 0
AreTakable bench = (place : ℕ) (packet : List Step) → item_at (read_by bench) place ≡ Some packet
    → tag_of (ends_in packet) ≤ bench.session.solver.bound
    → (one : Known) × IsTakable bench.session.solver packet one

-- the last clause of one of these packets, with its tag
abbrev pub IsLastOfOne : List (List Step) → Known → Type 0
IsLastOfOne packets one = (packet : List Step) × Contains packets packet
    × (item_at (map known_of packet) (length packet) ≡ Some one)

-- Packets that were read came to be known, and the last clause of each to be held. No other clause
-- came, and nothing else changed.
pub record HasImported (old new : Bench) : Type 0 where
  pub session : new ≡ record old { session = new.session }
  pub inputs : new.session.solver.inputs ≡ old.session.solver.inputs
  pub bound : new.session.solver.bound ≡ old.session.solver.bound
  pub steps : new.session.solver.steps ≡ old.session.solver.steps
  pub learnt : new.session.solver.learnt ≡ old.session.solver.learnt
  pub held : IsFront old.session.solver.held new.session.solver.held
  pub lasts : All (IsLastOfOne (read_by old)) held.more
  pub stay : (place : ℕ) (packet : List Step)
      → packet_at old.session.solver.packets place ≡ Some packet
      → packet_at new.session.solver.packets place ≡ Some packet
  pub came : (place : ℕ) (packet : List Step)
      → packet_at new.session.solver.packets place ≡ Some packet
      → (packet_at old.session.solver.packets place ≡ Some packet)
      ⊎ ((item_at (read_by old) place ≡ Some packet) × IsHeld new.session.solver packet)

-- The packets of the first places that were read are known, as far as their tags are up to the
-- bound.
abbrev pub KnowsReadUpTo : Bench → ℕ → Type 0
KnowsReadUpTo bench last = (place : ℕ) (packet : List Step) → place ≤ last
    → item_at (read_by bench) place ≡ Some packet
    → tag_of (ends_in packet) ≤ bench.session.solver.bound
    → packet_at bench.session.solver.packets place ≡ Some packet
