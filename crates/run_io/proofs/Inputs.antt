-- Which input a source over files has open.
use Rattle.std.proofs.Common.{◌≡◌, ◌∙◌, ap, ℕ, List, Option, None, Some, Bool, true, not}
use Rattle.std.specs.Prelude.{◌&&◌}
use Rattle.run_io.specs.StdSourceState.{may_be}

-- what is open as before may be what it might be before
pub still_fits : (open_old open_new file_old file_new : Bool) → open_new ≡ open_old →
    file_new ≡ file_old → (name : Option (List ℕ)) → may_be open_old file_old name ≡ true →
    may_be open_new file_new name ≡ true
still_fits open_old open_new file_old file_new open_same file_same None fits =
    ap (λ (b : Bool). b && not file_new) open_same
    ∙ ap (λ (b : Bool). open_old && not b) file_same ∙ fits
still_fits open_old open_new file_old file_new open_same file_same (Some name) fits =
    ap (λ (b : Bool). b && file_new) open_same
    ∙ ap (λ (b : Bool). open_old && b) file_same ∙ fits
