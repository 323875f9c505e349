-- A run of the audit: what was read, what was found, and what was written.
use Rattle.std.specs.Prelude.{◌≡◌, ℕ, ◌<◌, ◌≤◌, ◌⊎◌, Bool, true, Option, List, ◌++◌, length, take}
use Rattle.std.specs.Prelude.{codes, decimal}
use Rattle.run_io.specs.Bytes.{appended, followed_by, IsEmptyWhereTold}
use Rattle.run_io.specs.Fault.{last_count}
use Rattle.verdict_audit.specs.Audit.{Audits}
use Rattle.verdict_audit.specs.declared.findings.Finding.{Finding}
use Rattle.verdict_audit.specs.declared.findings.Finding.TheVariants.{Bad, Good}
use Rattle.verdict_audit.specs.declared.findings.Flaw.{Flaw}
use Rattle.verdict_audit.specs.declared.findings.Flaw.TheVariants as flaw
use Rattle.audit_run.specs.declared.input.ReadFault.{ReadFault}
use Rattle.audit_run.specs.declared.input.ReadFault.TheVariants as fault

abbrev pub flaw_word : Flaw → List ℕ
flaw_word flaw.TooLong = codes "too-long"
flaw_word flaw.Form = codes "form"
flaw_word flaw.Number = codes "number"
flaw_word flaw.Model = codes "model"
flaw_word flaw.Part = codes "part"
flaw_word flaw.Trace = codes "trace"
flaw_word flaw.Last = codes "last"

-- the line of a finding
abbrev pub line_text : Finding → List ℕ
line_text (Good proved unproved) =
    (codes "good " ++ decimal proved ++ codes " " ++ decimal unproved) ++ codes "\n"
line_text (Bad line why) =
    (codes "bad " ++ decimal line ++ codes " " ++ flaw_word why) ++ codes "\n"

abbrev pub status_of : Finding → ℕ
status_of (Good proved unproved) = 0
status_of (Bad line why) = 1

-- a source fault is counted, and want of memory leaves the count
abbrev pub IsReadFault : ReadFault → ℕ → ℕ → Type 0
IsReadFault fault.Failed before now = (before ≤ now) × ((before < now) ⊎ (now ≡ last_count))
IsReadFault fault.Memory before now = now ≡ before

-- The source gave these bytes, and was read to its end or past the most bytes of a text. Where it
-- has ended they are all that it had.
pub record Gave (before after : Option (List ℕ)) (ended : Bool) (bytes : List ℕ) : Type 0 where
  pub gave : before ≡ followed_by bytes after
  pub enough : (ended ≡ true) ⊎ (length bytes ≡ 4294967297)
  pub whole : ended ≡ true → IsEmptyWhereTold after

-- what an audit finds in the bytes that two sources gave
pub record Found (icnf_before icnf_after : Option (List ℕ)) (icnf_ended : Bool)
    (output_before output_after : Option (List ℕ)) (output_ended : Bool)
    (finding : Finding) : Type 0 where
  pub text : List ℕ
  pub shown : List ℕ
  pub text_given : Gave icnf_before icnf_after icnf_ended text
  pub shown_given : Gave output_before output_after output_ended shown
  pub audits : Audits text shown finding

-- one of the two sources failed
abbrev pub Broke : ReadFault → ℕ → ℕ → ℕ → ℕ → Type 0
Broke fault.Failed icnf_before icnf_now output_before output_now =
    (icnf_before < icnf_now) ⊎ (output_before < output_now)
Broke fault.Memory icnf_before icnf_now output_before output_now =
    (icnf_now ≡ icnf_before) × (output_now ≡ output_before)

-- The sink took the line of the finding, a front of it where it failed, or nothing where memory ran
-- out.
abbrev pub Told : Finding → Option (List ℕ) → Option (List ℕ) → ℕ → Type 0
Told finding before after status =
    ((status ≡ status_of finding) × (after ≡ appended before (line_text finding)))
    ⊎ (((status ≡ 4) × (size : ℕ) × (after ≡ appended before (take size (line_text finding))))
    ⊎ ((status ≡ 6) × (after ≡ before)))
