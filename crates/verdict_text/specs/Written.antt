-- Blocks that were written one after the other, for the jobs 1, 2 and so on.
use Rattle.std.specs.Prelude.{ℕ, ◌+◌, ◌<◌, ◌≡◌, List, [], ◌∷◌, length, take, slice_index}
use Rattle.trace_text.specs.Text.{HaveExactTags}
use Rattle.verdict_text.specs.Block.{IsBlock}
use Rattle.verdict_text.specs.declared.blocks.Printed.{Printed}
use Rattle.verdict_text.specs.declared.blocks.Shown.{Shown}
use Rattle.verdict_text.specs.declared.blocks.Shown.TheVariants as shown

-- the tags of the steps that a block shows are exact over these tags of inputs
abbrev pub HasExactTags : List ℕ → Shown → Type 0
HasExactTags tags (shown.Refuted part steps) = HaveExactTags tags [] steps
HasExactTags tags _ = Unit {0}

-- the text is the block of the job behind so many, over as many inputs as that job has
pub record IsWritten (tags sizes : List ℕ) (before : ℕ) (printed : Printed)
    (text : List ℕ) : Type 0 where
  pub job : printed.job ≡ before + 1
  pub has_size : before < length sizes
  pub block : IsBlock (slice_index sizes before) printed text
  pub exact_tags : HasExactTags (take (slice_index sizes before) tags) printed.shown

-- one text for each block, from the job behind so many on
abbrev pub AreWritten : List ℕ → List ℕ → ℕ → List Printed → List (List ℕ) → Type 0
AreWritten tags sizes before [] [] = Unit {0}
AreWritten tags sizes before [] (text ∷ texts) = ⊥
AreWritten tags sizes before (printed ∷ blocks) [] = ⊥
AreWritten tags sizes before (printed ∷ blocks) (text ∷ texts) =
    IsWritten tags sizes before printed text × AreWritten tags sizes (before + 1) blocks texts
