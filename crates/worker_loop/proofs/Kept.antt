-- What stays when a board gets entries of attempts.
use Rattle.std.proofs.Common.{◌≡◌, ◌∙◌, ℕ, [], ◌∷◌, ◌++◌, refl, ap, sym, subst, append_assoc}
use Rattle.std.proofs.lemmas.List.{append-nil}
use Rattle.std.proofs.lemmas.List.Elements.{All-append, All-nil}
use Rattle.entry_core.specs.declared.entries.Entry.{Entry}
use Rattle.entry_core.specs.declared.entries.Event.{Event}
use Rattle.board_core.specs.State.{State, entered}
use Rattle.board_core.proofs.Verdicts.{entry_by}
use Rattle.worker_loop.specs.Fits.{Fits}
use Rattle.worker_loop.specs.Working.{IsOfAttempt, HasAttemptsMore}
use Rattle.worker_loop.specs.declared.bench.Bench.{Bench}
use Rattle.worker_loop.specs.Attempts.{HasEnded}
use Rattle.worker_loop.proofs.Fitting.{fits_longer}

-- a bench that fits goes on to fit after one more entry
pub fits_entered : (bench : Bench) (old new : State) (caller : ℕ) (happened : Event) → new ≡ entered old caller happened → Fits bench old.journal → Fits bench new.journal
fits_entered bench old new caller happened is fits = subst (λ (b : State). Fits bench b.journal) (sym is) (fits_longer bench old.journal (entry_by caller happened ∷ []) fits)

pub fits_ended : (bench : Bench) (old new : State) (caller number job : ℕ) → HasEnded old new caller number job → Fits bench old.journal → Fits bench new.journal
fits_ended bench old new caller number job ended fits = fits_entered bench old new caller ended.happened ended.is fits

pub nothing_more : (board : State) (caller : ℕ) → HasAttemptsMore board board caller
nothing_more board caller = record {
  rules = refl;
  more = [];
  is = sym (append-nil board.journal);
  own = All-nil (λ (entry : Entry). entry.caller ≡ caller);
  attempts = All-nil (λ (entry : Entry). IsOfAttempt entry.event);
}

pub both_more : (old mid new : State) (caller : ℕ) → HasAttemptsMore old mid caller → HasAttemptsMore mid new caller → HasAttemptsMore old new caller
both_more old mid new caller front back = record {
  rules = back.rules ∙ front.rules;
  more = front.more ++ back.more;
  is = back.is ∙ ap (λ all. all ++ back.more) front.is ∙ append_assoc old.journal front.more back.more;
  own = All-append (λ (entry : Entry). entry.caller ≡ caller) front.more back.more front.own back.own;
  attempts = All-append (λ (entry : Entry). IsOfAttempt entry.event) front.more back.more front.attempts back.attempts;
}
