-- The trail's own fields after each of its steps.
use Rattle.std.proofs.Common.{◌≡◌, ◌∙◌, ℕ, ◌+◌, ◌-◌, ◌*◌, ◌<◌, ◌≤◌, min, List, [], ◌∷◌, ◌++◌, length, take, set, replicate, Option, refl, ap, subst, sym, arith, get_or}
use Rattle.std.specs.Prelude.{Contains, Result, Ok, Err, OnErr}
use Rattle.std.proofs.lemmas.List.{length-set, length-take, length-take-le, take_more, take_more_set, take-take, take-append-le, get_or-take, take_all, length_push, get_or_read}
use Rattle.std.proofs.lemmas.List.Elements.{All-contains, Contains-get_or}
use Rattle.sat_base.specs.Lit.{variable, opposite, IsLit}
use Rattle.trail_core.specs.declared.truth.Truth.{Truth}
use Rattle.trail_core.specs.declared.truth.Truth.TheVariants.{True, False, Unassigned}
use Rattle.trail_core.specs.declared.standing.Standing.{Standing}
use Rattle.trail_core.specs.Trail.{Entry, TrailView, lits_of, IsTrail, IsFree, no_entry}
use Rattle.trail_core.specs.UnderTrail.{IsUnassigned}
use Rattle.trail_core.specs.Truth.{HasTruth}
use Rattle.trail_core.specs.Standing.{place_of, reason_of, IsStandingOf}
use Rattle.trail_core.specs.Layout.{places, truth_at, standing_at, AreTables, IsLaidOut}
use Rattle.trail_core.proofs.Views.{entries_of, lits_of-entries, index_in, standing_found, trail_from}
use Rattle.trail_core.proofs.Push.{with_truths, IsPush, pushed, entries_pushed}
use Rattle.trail_core.proofs.Pop.{popped}
use Rattle.trail_core.proofs.Grow.{KeepsStandings, wider, wider_entries, more_vars}

abbrev pub view_of : List Standing → List ℕ → ℕ → ℕ → ℕ → TrailView
view_of standings trues depth vars looked = record { entries = entries_of standings trues; depth = depth; vars = vars; looked = looked }

pub trues_are : (standings : List Standing) (trues : List ℕ) (depth vars looked : ℕ) (now : TrailView) → view_of standings trues depth vars looked ≡ now → lits_of now.entries ≡ trues
trues_are standings trues depth vars looked now is = sym (ap (λ (t : TrailView). lits_of t.entries) is) ∙ lits_of-entries standings trues

pub length-trues : (truths : List Truth) (standings : List Standing) (lits : List ℕ) (count depth vars : ℕ) → IsLaidOut truths standings lits count depth vars → length (take count lits) ≡ count
length-trues truths standings lits count depth vars laid = length-take-le count lits laid.count_within

pub few : (truths : List Truth) (standings : List Standing) (lits : List ℕ) (count depth vars : ℕ) → IsLaidOut truths standings lits count depth vars → count ≤ places vars
few truths standings lits count depth vars laid =
    omega (arith, laid.tables.counted, laid.tables.value_places, length-trues truths standings lits count depth vars laid)

-- a trail's fields are those of a trail
pub trail_kept : (truths : List Truth) (standings : List Standing) (lits : List ℕ) (count depth vars looked : ℕ) → IsLaidOut truths standings lits count depth vars → looked ≤ count → IsTrail (view_of standings (take count lits) depth vars looked)
trail_kept truths standings lits count depth vars looked laid at =
    trail_from truths standings (take count lits) depth vars looked laid.tables (omega (arith, at, length-trues truths standings lits count depth vars laid))

-- a literal that may come
pub record IsAssignable (vars lit : ℕ) (trues : List ℕ) : Type 0 where
  pub is_lit : IsLit lit
  pub reserved : variable lit ≤ vars
  pub free : IsUnassigned trues lit

push_of : (truths : List Truth) (standings : List Standing) (lits : List ℕ) (count depth vars lit : ℕ) (standing : Standing) → IsLaidOut truths standings lits count depth vars → IsAssignable vars lit (take count lits) → place_of standing ≡ count → standing.level ≡ depth → IsPush truths (take count lits) depth lit standing
push_of truths standings lits count depth vars lit standing laid new place level = record {
  low = new.is_lit.not_zero;
  high = index_in truths standings (take count lits) depth vars lit laid.tables new.is_lit.not_zero new.is_lit.within new.reserved;
  free = new.free;
  place = place ∙ sym (length-trues truths standings lits count depth vars laid);
  level = level;
}

-- there is room for it
pub room : (truths : List Truth) (standings : List Standing) (lits : List ℕ) (count depth vars lit : ℕ) → IsLaidOut truths standings lits count depth vars → IsAssignable vars lit (take count lits) → count + 1 ≤ places vars
room truths standings lits count depth vars lit laid new =
    let standing : Standing = record { reason = 0; level = depth; mark = 2 * count } in
    let t = pushed truths standings (take count lits) depth vars lit standing laid.tables
    (push_of truths standings lits count depth vars lit standing laid new (omega arith) refl) in
    omega (arith, t.counted, t.value_places, length_push (take count lits) lit, length-trues truths standings lits count depth vars laid)

-- after the writes of an assignment
pub laid_pushed : (truths : List Truth) (standings : List Standing) (lits : List ℕ) (count depth vars lit code other var : ℕ) (standing : Standing) → IsLaidOut truths standings lits count depth vars → IsAssignable vars lit (take count lits) → place_of standing ≡ count → standing.level ≡ depth → code ≡ lit → other ≡ opposite lit → var ≡ variable lit → IsLaidOut (set (set truths (code - 2) True) (other - 2) False) (set standings (var - 1) standing) (set lits count lit) (count + 1) depth vars
laid_pushed truths standings lits count depth vars lit code other var standing laid new place level code_is other_is var_is =
    let there = room truths standings lits count depth vars lit laid new in
    let t = pushed truths standings (take count lits) depth vars lit standing laid.tables (push_of truths standings lits count depth vars lit standing laid new place level) in
    let trues : take (count + 1) (set lits count lit) ≡ take count lits ++ lit ∷ [] = take_more_set lits count lit (omega (arith, there, laid.lit_places)) in
    let lits_size = length-set lits count lit in
    subst (λ n. IsLaidOut (set (set truths (n - 2) True) (other - 2) False) (set standings (var - 1) standing) (set lits count lit) (count + 1) depth vars) (sym code_is)
    (subst (λ n. IsLaidOut (set (set truths (lit - 2) True) (n - 2) False) (set standings (var - 1) standing) (set lits count lit) (count + 1) depth vars) (sym other_is)
    (subst (λ n. IsLaidOut (with_truths truths lit True False) (set standings (n - 1) standing) (set lits count lit) (count + 1) depth vars) (sym var_is)
    (record {
      tables = subst (λ (xs : List ℕ). AreTables (with_truths truths lit True False) (set standings (variable lit - 1) standing) xs depth vars) (sym trues) t;
      lit_places = omega (arith, laid.lit_places, lits_size);
      count_within = omega (arith, there, laid.lit_places, lits_size);
    })))

pub entries_laid_pushed : (truths : List Truth) (standings : List Standing) (lits : List ℕ) (count depth vars lit var : ℕ) (standing : Standing) (reason : Option ℕ) → IsLaidOut truths standings lits count depth vars → IsAssignable vars lit (take count lits) → place_of standing ≡ count → standing.level ≡ depth → reason_of standing ≡ reason → var ≡ variable lit → entries_of (set standings (var - 1) standing) (take (count + 1) (set lits count lit)) ≡ entries_of standings (take count lits) ++ record { lit = lit; level = depth; reason = reason } ∷ []
entries_laid_pushed truths standings lits count depth vars lit var standing reason laid new place level reason_is var_is =
    let there = room truths standings lits count depth vars lit laid new in
    let trues : take (count + 1) (set lits count lit) ≡ take count lits ++ lit ∷ [] = take_more_set lits count lit (omega (arith, there, laid.lit_places)) in
    let with : ℕ → Option ℕ → Entry = λ l r. record { lit = lit; level = l; reason = r } in
    ap (λ n. entries_of (set standings (n - 1) standing) (take (count + 1) (set lits count lit))) var_is
    ∙ ap (entries_of (set standings (variable lit - 1) standing)) trues
    ∙ entries_pushed truths standings (take count lits) depth vars lit standing laid.tables (push_of truths standings lits count depth vars lit standing laid new place level)
    ∙ ap (λ e. entries_of standings (take count lits) ++ e ∷ []) (ap (λ l. with l (reason_of standing)) level ∙ ap (with depth) reason_is)

-- after the writes that take the last literal back
pub laid_popped : (truths : List Truth) (standings : List Standing) (lits : List ℕ) (count depth vars last code other : ℕ) → IsLaidOut truths standings lits count depth vars → 0 < count → last ≡ get_or lits (count - 1) 0 → code ≡ last → other ≡ opposite last → IsLaidOut (set (set truths (code - 2) Unassigned) (other - 2) Unassigned) standings lits (count - 1) depth vars
laid_popped truths standings lits count depth vars last code other laid some last_is code_is other_is =
    let trues : take count lits ≡ take (count - 1) lits ++ last ∷ [] =
    ap (λ n. take n lits) (omega arith) ∙ take_more lits (count - 1) 0 (omega (arith, laid.count_within)) ∙ ap (λ l. take (count - 1) lits ++ l ∷ []) (sym last_is) in
    let t = popped truths standings (take (count - 1) lits) depth vars last (subst (λ (xs : List ℕ). AreTables truths standings xs depth vars) trues laid.tables) in
    subst (λ n. IsLaidOut (set (set truths (n - 2) Unassigned) (other - 2) Unassigned) standings lits (count - 1) depth vars) (sym code_is)
    (subst (λ n. IsLaidOut (set (set truths (last - 2) Unassigned) (n - 2) Unassigned) standings lits (count - 1) depth vars) (sym other_is)
    (record {
      tables = t;
      lit_places = laid.lit_places;
      count_within = omega (arith, laid.count_within);
    }))

-- after lists grew
pub record HasGrownTo (truths : List Truth) (standings : List Standing) (lits : List ℕ) (count vars : ℕ) (standings' : List Standing) (lits' : List ℕ) (n : ℕ) : Type 0 where
  pub enough : places vars ≤ n
  pub few : count ≤ n
  pub lits_are : (more : List ℕ) × (lits' ≡ take n lits ++ more)
  pub lits_long : n ≤ length lits'
  pub standings_are : (more : List Standing) × (standings' ≡ take n standings ++ more)
  pub standings_long : n ≤ length standings'

front : {X : Type 0} (xs ys more : List X) (k n : ℕ) → ys ≡ take n xs ++ more → k ≤ n → k ≤ length xs → take k ys ≡ take k xs
front xs ys more k n is le within =
    ap (take k) is
    ∙ take-append-le k (take n xs) more (omega (arith, length-take n xs, le, within))
    ∙ take-take k n xs le

keeps : (standings new more : List Standing) (k n : ℕ) → new ≡ take n standings ++ more → k ≤ n → k ≤ length standings → n ≤ length new → KeepsStandings standings new k
keeps standings new more k n is le within long = record {
  each = λ i d lt.
      sym (get_or-take k new i d lt)
      ∙ ap (λ (xs : List Standing). get_or xs i d) (front standings new more k n is le within)
      ∙ get_or-take k standings i d lt;
  long = omega (arith, le, long);
}

pub laid_grown : (truths : List Truth) (standings : List Standing) (lits : List ℕ) (count depth vars : ℕ) (standings' : List Standing) (lits' : List ℕ) (n : ℕ) → IsLaidOut truths standings lits count depth vars → HasGrownTo truths standings lits count vars standings' lits' n → IsLaidOut truths standings' lits' count depth vars
laid_grown truths standings lits count depth vars standings' lits' n laid grown =
    let trues : take count lits' ≡ take count lits = front lits lits' grown.lits_are.0 count n grown.lits_are.1 grown.few laid.count_within in
    let kept = keeps standings standings' grown.standings_are.0 (places vars) n grown.standings_are.1 grown.enough laid.tables.standing_places grown.standings_long in
    record {
      tables = subst (λ (xs : List ℕ). AreTables truths standings' xs depth vars) (sym trues) (wider truths standings (take count lits) depth vars standings' laid.tables kept);
      lit_places = omega (arith, grown.enough, grown.lits_long);
      count_within = omega (arith, grown.few, grown.lits_long);
    }

pub entries_grown : (truths : List Truth) (standings : List Standing) (lits : List ℕ) (count depth vars : ℕ) (standings' : List Standing) (lits' : List ℕ) (n : ℕ) → IsLaidOut truths standings lits count depth vars → HasGrownTo truths standings lits count vars standings' lits' n → entries_of standings' (take count lits') ≡ entries_of standings (take count lits)
entries_grown truths standings lits count depth vars standings' lits' n laid grown =
    let trues : take count lits' ≡ take count lits = front lits lits' grown.lits_are.0 count n grown.lits_are.1 grown.few laid.count_within in
    let kept = keeps standings standings' grown.standings_are.0 (places vars) n grown.standings_are.1 grown.enough laid.tables.standing_places grown.standings_long in
    ap (entries_of standings') trues ∙ wider_entries truths standings (take count lits) depth vars standings' laid.tables kept

pub laid_reserved : (truths : List Truth) (standings : List Standing) (lits : List ℕ) (count depth vars new : ℕ) (truths' : List Truth) (extra : ℕ) → IsLaidOut truths standings lits count depth vars → vars ≤ new → places new ≤ length standings → places new ≤ length lits → truths' ≡ take (2 * places new) truths ++ replicate extra Unassigned → 2 * places vars + extra ≡ 2 * places new → IsLaidOut truths' standings lits count depth new
laid_reserved truths standings lits count depth vars new truths' extra laid le standing_places lit_places truths_are extra_is =
    let whole : truths' ≡ truths ++ replicate extra Unassigned = truths_are ∙ ap (λ (xs : List Truth). xs ++ replicate extra Unassigned) (take_all (2 * places new) truths (omega (arith, laid.tables.value_places, extra_is))) in
    subst (λ (xs : List Truth). IsLaidOut xs standings lits count depth new) (sym whole)
    (record {
      tables = more_vars truths standings (take count lits) depth vars new extra laid.tables le standing_places extra_is;
      lit_places = lit_places;
      count_within = laid.count_within;
    })

pub grown_to : (truths : List Truth) (standings : List Standing) (lits : List ℕ) (count depth vars : ℕ) (standings' : List Standing) (lits' : List ℕ) (n k : ℕ) (s : Standing) (l a b : ℕ) → IsLaidOut truths standings lits count depth vars → n ≡ min k 8388607 → vars ≤ k → lits' ≡ take n lits ++ replicate a l → standings' ≡ take n standings ++ replicate b s → length lits' ≡ n → length standings' ≡ n → HasGrownTo truths standings lits count vars standings' lits' n
grown_to truths standings lits count depth vars standings' lits' n k s l a b laid n_is le lits_are standings_are lits_size standings_size = record {
  enough = omega arith;
  few = omega (arith, few truths standings lits count depth vars laid);
  lits_are = (replicate a l, lits_are);
  lits_long = omega arith;
  standings_are = (replicate b s, standings_are);
  standings_long = omega arith;
}

-- reads
pub truth_read : (truths : List Truth) (standings : List Standing) (lits : List ℕ) (count depth vars lit index : ℕ) (truth : Truth) → IsLaidOut truths standings lits count depth vars → 2 ≤ lit → index ≡ lit - 2 → index < length truths → truth ≡ get_or truths index truth → HasTruth (take count lits) lit truth
truth_read truths standings lits count depth vars lit index truth laid low index_is lt read =
    let is : truth ≡ truth_at truths lit = get_or_read truths index truth lt read Unassigned ∙ ap (λ i. get_or truths i Unassigned) index_is in
    subst (HasTruth (take count lits) lit) (sym is) (laid.tables.valued lit low (omega arith))

pub free_zero : (trail : TrailView) → IsTrail trail → IsFree trail.entries 0
free_zero trail t = record {
  none = λ place h. let k = t.reserved place no_entry h.within in omega (arith, k.0, h.is);
}

-- what is kept of the last literal's variable
pub last_standing : (truths : List Truth) (standings : List Standing) (lits : List ℕ) (count depth vars last var : ℕ) (standing : Standing) → IsLaidOut truths standings lits count depth vars → 0 < count → last ≡ get_or lits (count - 1) last → var ≡ variable last → standing ≡ get_or standings (var - 1) standing → standing ≡ standing_at standings (variable (get_or (take count lits) (length (take count lits) - 1) 0))
last_standing truths standings lits count depth vars last var standing laid some last_read var_is read =
    let size = length-trues truths standings lits count depth vars laid in
    let trues : List ℕ = take count lits in
    let last_is : last ≡ get_or lits (count - 1) 0 = get_or_read lits (count - 1) last (omega (arith, some, laid.count_within)) last_read 0 in
    let there : get_or trues (length trues - 1) 0 ≡ last = ap (λ n. get_or trues (n - 1) 0) size ∙ get_or-take count lits (count - 1) 0 (omega arith) ∙ sym last_is in
    let here : Contains trues last = subst (Contains trues) there (Contains-get_or trues (length trues - 1) 0 (omega (arith, size, some))) in
    let h = All-contains (λ (l : ℕ). (2 ≤ l) × (l < 2 + length truths)) trues last laid.tables.within here in
    get_or_read standings (var - 1) standing (omega (arith, var_is, h.0, h.1, laid.tables.value_places, laid.tables.standing_places)) read _
    ∙ ap (standing_at standings) (var_is ∙ ap variable (sym there))

-- what is kept of a variable whose literals are among the tables
pub standing_read : (truths : List Truth) (standings : List Standing) (lits : List ℕ) (count depth vars var : ℕ) (truth : Truth) (standing : Standing) → IsLaidOut truths standings lits count depth vars → 0 < var → 2 * var - 2 < length truths → HasTruth (take count lits) (2 * var) truth → (truth ≡ Unassigned → ⊥) → standing ≡ get_or standings (var - 1) standing → IsStandingOf (entries_of standings (take count lits)) var standing
standing_read truths standings lits count depth vars var truth standing laid some within h assigned read =
    let is : standing ≡ standing_at standings var = get_or_read standings (var - 1) standing (omega (arith, some, within, laid.tables.value_places, laid.tables.standing_places)) read _ in
    subst (IsStandingOf (entries_of standings (take count lits)) var) (sym is)
    (standing_found truths standings (take count lits) depth vars var truth laid.tables h assigned)

pub on_err : {T E : Type 0} (r : Result T E) (P : Type 0) → P → OnErr r P
on_err (Ok x) P p = tt
on_err (Err e) P p = p
