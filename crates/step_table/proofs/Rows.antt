-- Rows over the arrays: one more, and fewer.
use Rattle.std.proofs.Common.{◌≡◌, ◌∙◌, ℕ, zero, suc, ◌+◌, ◌-◌, ◌<◌, ◌≤◌, List, [], ◌∷◌, ◌++◌, length, take, drop, get_or, refl, ap, sym, subst, arith}
use Rattle.std.specs.Prelude.{All, slice_range}
use Rattle.std.proofs.Math.Seq.{drop-append_seam}
use Rattle.std.proofs.lemmas.List.{take_all, take-append-le, drop-append-le, drop-take, length-append, length-drop, length-take-le, get_or-take, get_or-drop}
use Rattle.std.proofs.lemmas.List.Elements.{All-get_or, All-push, All-take}
use Rattle.sat_base.specs.Lit.{IsLitSet}
use Rattle.sat_base.specs.declared.origins.Ref.{Ref}
use Rattle.trace_core.specs.declared.derivation.Step.{Step}
use Rattle.step_table.specs.declared.table.Row.{Row}
use Rattle.step_table.specs.Layout.{no_row, step_behind, steps_behind, FillsBehind, IsLaidOut}
use Rattle.step_table.specs.Table.{no_step, step_at}

-- parts of an array that grows
range_new : {X : Type 0} (xs ys : List X) (start end : ℕ) → start ≡ length xs → end ≡ length xs + length ys → slice_range (xs ++ ys) start end ≡ ys
range_new xs ys start end from to =
    ap (λ n. take (end - start) (drop n (xs ++ ys))) from ∙ ap (take (end - start)) (drop-append_seam xs ys) ∙ take_all (end - start) ys (omega arith)

range_kept : {X : Type 0} (xs ys : List X) (start end : ℕ) → start ≤ end → end ≤ length xs → slice_range (xs ++ ys) start end ≡ slice_range xs start end
range_kept xs ys start end le within =
    ap (take (end - start)) (drop-append-le start xs ys (omega arith))
    ∙ take-append-le (end - start) (drop start xs) ys (let h = length-drop start xs in omega arith)

pub range_length : {X : Type 0} (xs : List X) (start end : ℕ) → end ≤ length xs → length (slice_range xs start end) ≡ end - start
range_length xs start end within = length-take-le (end - start) (drop start xs) (let h = length-drop start xs in omega arith)

pub range_at : {X : Type 0} (xs : List X) (start end place : ℕ) (d : X) → end ≤ length xs → place < length (slice_range xs start end) →
    (start + place < end) × (get_or (slice_range xs start end) place d ≡ get_or xs (start + place) d)
range_at xs start end place d within lt =
    let long = range_length xs start end within in (
      omega arith,
      get_or-take (end - start) (drop start xs) place d (omega arith) ∙ get_or-drop start xs place d,
    )

pub same_at : {X : Type 0} (xs : List X) (i : ℕ) (d e : X) → i < length xs → get_or xs i d ≡ get_or xs i e
same_at [] i d e lt = absurd (omega arith)
same_at (x ∷ xs) zero d e lt = refl
same_at (x ∷ xs) (suc i) d e lt = same_at xs i d e (omega arith)

-- the rows ascend to the ends of the arrays
pub ends : (lits hints : ℕ) (before : Row) (rows : List Row) → FillsBehind lits hints before rows → (before.lits_end ≤ lits) × (before.hints_end ≤ hints)
ends lits hints before [] h = (let k = h.0 in omega arith, let k = h.1 in omega arith)
ends lits hints before (row ∷ rows) h = let more = ends lits hints row rows h.2 in (let a = h.0 in let b = more.0 in omega arith, let a = h.1 in let b = more.1 in omega arith)

pub count_steps : (lits : List ℕ) (hints : List Ref) (before : Row) (rows : List Row) → length (steps_behind lits hints before rows) ≡ length rows
count_steps lits hints before [] = refl
count_steps lits hints before (row ∷ rows) = ap suc (count_steps lits hints row rows)

-- the step at a place
found : (lits : List ℕ) (hints : List Ref) (before : Row) (rows : List Row) (i : ℕ) (d : Step) (e f : Row) → i < length rows →
    get_or (steps_behind lits hints before rows) i d ≡ step_behind lits hints (get_or (before ∷ rows) i e) (get_or rows i f)
found lits hints before [] i d e f lt = absurd (omega arith)
found lits hints before (row ∷ rows) zero d e f lt = refl
found lits hints before (row ∷ rows) (suc i) d e f lt = found lits hints row rows i d e f (omega arith)

record IsOrdered (lits hints : ℕ) (before row : Row) : Type 0 where
  lits_up : before.lits_end ≤ row.lits_end
  hints_up : before.hints_end ≤ row.hints_end
  lits_in : row.lits_end ≤ lits
  hints_in : row.hints_end ≤ hints

ordered : (lits hints : ℕ) (before : Row) (rows : List Row) (i : ℕ) (e f : Row) → FillsBehind lits hints before rows → i < length rows → IsOrdered lits hints (get_or (before ∷ rows) i e) (get_or rows i f)
ordered lits hints before [] i e f h lt = absurd (omega arith)
ordered lits hints before (row ∷ rows) zero e f h lt = let more = ends lits hints row rows h.2 in record { lits_up = h.0; hints_up = h.1; lits_in = more.0; hints_in = more.1 }
ordered lits hints before (row ∷ rows) (suc i) e f h lt = ordered lits hints row rows i e f h.2 (omega arith)

-- what the rows say of the step at a place
pub record IsPlaced (lits : List ℕ) (hints : List Ref) (rows : List Row) (steps : List Step) (index : ℕ) (before row : Row) : Type 0 where
  pub within : index < length rows
  pub lits_ordered : before.lits_end ≤ row.lits_end
  pub lits_within : row.lits_end ≤ length lits
  pub hints_ordered : before.hints_end ≤ row.hints_end
  pub hints_within : row.hints_end ≤ length hints
  pub step : step_behind lits hints before row ≡ step_at steps index
  pub set : IsLitSet (step_at steps index).clause

pub in_rows : (lits : List ℕ) (hints : List Ref) (rows : List Row) (steps : List Step) (index : ℕ) → steps_behind lits hints no_row rows ≡ steps → index < length steps → index < length rows
in_rows lits hints rows steps index is lt = let same = count_steps lits hints no_row rows in let long = ap length is in omega arith

pub placed : (lits : List ℕ) (hints : List Ref) (rows : List Row) (steps : List Step) (index : ℕ) (before row : Row) → IsLaidOut lits hints rows → steps_behind lits hints no_row rows ≡ steps → index < length steps →
    before ≡ get_or (no_row ∷ rows) index no_row → row ≡ get_or rows index row → IsPlaced lits hints rows steps index before row
placed lits hints rows steps index before row laid is lt from to =
    let within = in_rows lits hints rows steps index is lt in
    let order = ordered (length lits) (length hints) no_row rows index no_row row laid.fills within in
    let step : step_behind lits hints before row ≡ step_at steps index =
    ap (λ (r : Row). step_behind lits hints r row) from ∙ ap (step_behind lits hints (get_or (no_row ∷ rows) index no_row)) to
    ∙ sym (found lits hints no_row rows index no_step no_row row within) ∙ ap (λ (all : List Step). get_or all index no_step) is in record {
      within = within;
      lits_ordered = subst (λ (r : Row). r.lits_end ≤ row.lits_end) (sym from) (subst (λ (r : Row). (get_or (no_row ∷ rows) index no_row).lits_end ≤ r.lits_end) (sym to) order.lits_up);
      lits_within = subst (λ (r : Row). r.lits_end ≤ length lits) (sym to) order.lits_in;
      hints_ordered = subst (λ (r : Row). r.hints_end ≤ row.hints_end) (sym from) (subst (λ (r : Row). (get_or (no_row ∷ rows) index no_row).hints_end ≤ r.hints_end) (sym to) order.hints_up);
      hints_within = subst (λ (r : Row). r.hints_end ≤ length hints) (sym to) order.hints_in;
      step = step;
      set = All-get_or (λ (s : Step). IsLitSet s.clause) steps index no_step lt (subst (All (λ (s : Step). IsLitSet s.clause)) is laid.sets);
    }

-- one row more
fills_pushed : (lits hints : ℕ) (before : Row) (rows : List Row) (row : Row) → FillsBehind lits hints before rows → lits ≤ row.lits_end → hints ≤ row.hints_end → FillsBehind row.lits_end row.hints_end before (rows ++ row ∷ [])
fills_pushed lits hints before [] row h le le' = ((let k = h.0 in omega arith), (let k = h.1 in omega arith), (refl, refl))
fills_pushed lits hints before (r ∷ rows) row h le le' = (h.0, h.1, fills_pushed lits hints r rows row h.2 le le')

steps_pushed : (lits more : List ℕ) (hints cites : List Ref) (before : Row) (rows : List Row) (row : Row) → FillsBehind (length lits) (length hints) before rows →
    row.lits_end ≡ length lits + length more → row.hints_end ≡ length hints + length cites →
    steps_behind (lits ++ more) (hints ++ cites) before (rows ++ row ∷ []) ≡ steps_behind lits hints before rows ++ record { clause = more; hints = cites; tag = row.tag } ∷ []
steps_pushed lits more hints cites before [] row h to to' =
    let f : List ℕ → List Ref → Step = λ clause names. record { clause = clause; hints = names; tag = row.tag } in
    ap (λ (s : Step). s ∷ [])
    (ap (λ (clause : List ℕ). f clause (slice_range (hints ++ cites) before.hints_end row.hints_end)) (range_new lits more before.lits_end row.lits_end h.0 to)
    ∙ ap (f more) (range_new hints cites before.hints_end row.hints_end h.1 to'))
steps_pushed lits more hints cites before (r ∷ rows) row h to to' =
    let f : List ℕ → List Ref → Step = λ clause names. record { clause = clause; hints = names; tag = r.tag } in
    let within = ends (length lits) (length hints) r rows h.2 in
    ap (λ (s : Step). s ∷ steps_behind (lits ++ more) (hints ++ cites) r (rows ++ row ∷ []))
    (ap (λ (clause : List ℕ). f clause (slice_range (hints ++ cites) before.hints_end r.hints_end)) (range_kept lits more before.lits_end r.lits_end h.0 within.0)
    ∙ ap (f (slice_range lits before.lits_end r.lits_end)) (range_kept hints cites before.hints_end r.hints_end h.1 within.1))
    ∙ ap (λ (all : List Step). step_behind lits hints before r ∷ all) (steps_pushed lits more hints cites r rows row h.2 to to')

pub record IsPushed (lits more lits' : List ℕ) (hints cites hints' : List Ref) (rows rows' : List Row) (tag : ℕ) : Type 0 where
  pub row : Row
  pub lits_are : lits' ≡ lits ++ more
  pub hints_are : hints' ≡ hints ++ cites
  pub rows_are : rows' ≡ rows ++ row ∷ []
  pub lits_end : row.lits_end ≡ length lits + length more
  pub hints_end : row.hints_end ≡ length hints + length cites
  pub tag_is : row.tag ≡ tag
  pub few : length hints + length cites ≤ 4294967295
  pub set : IsLitSet more

pub pushed_steps : (lits more lits' : List ℕ) (hints cites hints' : List Ref) (rows rows' : List Row) (tag : ℕ) (steps : List Step) → IsPushed lits more lits' hints cites hints' rows rows' tag →
    IsLaidOut lits hints rows → steps_behind lits hints no_row rows ≡ steps → steps_behind lits' hints' no_row rows' ≡ steps ++ record { clause = more; hints = cites; tag = tag } ∷ []
pushed_steps lits more lits' hints cites hints' rows rows' tag steps new laid is =
    let f : ℕ → Step = λ t. record { clause = more; hints = cites; tag = t } in
    ap (λ (xs : List ℕ). steps_behind xs hints' no_row rows') new.lits_are ∙ ap (λ (xs : List Ref). steps_behind (lits ++ more) xs no_row rows') new.hints_are
    ∙ ap (steps_behind (lits ++ more) (hints ++ cites) no_row) new.rows_are
    ∙ steps_pushed lits more hints cites no_row rows new.row laid.fills new.lits_end new.hints_end
    ∙ ap (λ (all : List Step). all ++ f new.row.tag ∷ []) is ∙ ap (λ t. steps ++ f t ∷ []) new.tag_is

pub pushed_laid : (lits more lits' : List ℕ) (hints cites hints' : List Ref) (rows rows' : List Row) (tag : ℕ) → IsPushed lits more lits' hints cites hints' rows rows' tag → IsLaidOut lits hints rows → IsLaidOut lits' hints' rows'
pushed_laid lits more lits' hints cites hints' rows rows' tag new laid = record {
  fills =
      let long : length lits' ≡ new.row.lits_end = ap length new.lits_are ∙ length-append lits more ∙ sym new.lits_end in
      let cited : length hints' ≡ new.row.hints_end = ap length new.hints_are ∙ length-append hints cites ∙ sym new.hints_end in
      subst (λ n. FillsBehind n (length hints') no_row rows') (sym long)
      (subst (λ n. FillsBehind new.row.lits_end n no_row rows') (sym cited)
      (subst (FillsBehind new.row.lits_end new.row.hints_end no_row) (sym new.rows_are)
      (fills_pushed (length lits) (length hints) no_row rows new.row laid.fills (let k = new.lits_end in omega arith) (let k = new.hints_end in omega arith))));
  few = (let k = ap length new.hints_are in let l = length-append hints cites in let m = new.few in omega arith);
  sets = subst (All (λ (s : Step). IsLitSet s.clause)) (sym (pushed_steps lits more lits' hints cites hints' rows rows' tag (steps_behind lits hints no_row rows) new laid refl))
      (All-push (λ (s : Step). IsLitSet s.clause) (steps_behind lits hints no_row rows) (record { clause = more; hints = cites; tag = tag }) laid.sets new.set);
}

-- fewer rows
take_twice : {X : Type 0} (a b : ℕ) (xs : List X) → a ≤ b → take a (take b xs) ≡ take a xs
take_twice zero b xs le = refl
take_twice (suc a) zero xs le = absurd (omega arith)
take_twice (suc a) (suc b) [] le = refl
take_twice (suc a) (suc b) (x ∷ xs) le = ap (λ ys. x ∷ ys) (take_twice a b xs (omega arith))

range_cut : {X : Type 0} (xs : List X) (start end n : ℕ) → start ≤ end → end ≤ n → slice_range (take n xs) start end ≡ slice_range xs start end
range_cut xs start end n le within =
    let parts : n ≡ start + (n - start) = omega arith in
    ap (take (end - start)) (ap (λ k. drop start (take k xs)) parts ∙ drop-take start (n - start) xs) ∙ take_twice (end - start) (n - start) (drop start xs) (omega arith)

ascends : (lits hints : ℕ) (before : Row) (rows : List Row) (n : ℕ) (e : Row) → FillsBehind lits hints before rows → n ≤ length rows →
    (before.lits_end ≤ (get_or (before ∷ rows) n e).lits_end) × (before.hints_end ≤ (get_or (before ∷ rows) n e).hints_end)
ascends lits hints before rows zero e h le = (omega arith, omega arith)
ascends lits hints before [] (suc n) e h le = absurd (omega arith)
ascends lits hints before (row ∷ rows) (suc n) e h le =
    let more = ascends lits hints row rows n e h.2 (omega arith) in (let a = h.0 in let b = more.0 in omega arith, let a = h.1 in let b = more.1 in omega arith)

last_within : (lits hints : ℕ) (before : Row) (rows : List Row) (n : ℕ) (e : Row) → FillsBehind lits hints before rows → n ≤ length rows →
    ((get_or (before ∷ rows) n e).lits_end ≤ lits) × ((get_or (before ∷ rows) n e).hints_end ≤ hints)
last_within lits hints before rows zero e h le = ends lits hints before rows h
last_within lits hints before [] (suc n) e h le = absurd (omega arith)
last_within lits hints before (row ∷ rows) (suc n) e h le = last_within lits hints row rows n e h.2 (omega arith)

fills_cut : (lits hints : ℕ) (before : Row) (rows : List Row) (n : ℕ) (e : Row) → FillsBehind lits hints before rows → n ≤ length rows →
    FillsBehind (get_or (before ∷ rows) n e).lits_end (get_or (before ∷ rows) n e).hints_end before (take n rows)
fills_cut lits hints before rows zero e h le = (refl, refl)
fills_cut lits hints before [] (suc n) e h le = absurd (omega arith)
fills_cut lits hints before (row ∷ rows) (suc n) e h le = (h.0, h.1, fills_cut lits hints row rows n e h.2 (omega arith))

steps_cut : (lits : List ℕ) (hints : List Ref) (before : Row) (rows : List Row) (n : ℕ) (e : Row) → FillsBehind (length lits) (length hints) before rows → n ≤ length rows →
    steps_behind (take (get_or (before ∷ rows) n e).lits_end lits) (take (get_or (before ∷ rows) n e).hints_end hints) before (take n rows) ≡ take n (steps_behind lits hints before rows)
steps_cut lits hints before rows zero e h le = refl
steps_cut lits hints before [] (suc n) e h le = absurd (omega arith)
steps_cut lits hints before (row ∷ rows) (suc n) e h le =
    let last : Row = get_or (row ∷ rows) n e in
    let up = ascends (length lits) (length hints) row rows n e h.2 (omega arith) in
    let f : List ℕ → List Ref → Step = λ clause names. record { clause = clause; hints = names; tag = row.tag } in
    ap (λ (s : Step). s ∷ steps_behind (take last.lits_end lits) (take last.hints_end hints) row (take n rows))
    (ap (λ (clause : List ℕ). f clause (slice_range (take last.hints_end hints) before.hints_end row.hints_end)) (range_cut lits before.lits_end row.lits_end last.lits_end h.0 up.0)
    ∙ ap (f (slice_range lits before.lits_end row.lits_end)) (range_cut hints before.hints_end row.hints_end last.hints_end h.1 up.1))
    ∙ ap (λ (all : List Step). step_behind lits hints before row ∷ all) (steps_cut lits hints row rows n e h.2 (omega arith))

pub record IsCut (lits lits' : List ℕ) (hints hints' : List Ref) (rows rows' : List Row) (n : ℕ) : Type 0 where
  pub last : Row
  pub last_is : last ≡ get_or (no_row ∷ rows) n no_row
  pub lits_are : lits' ≡ take last.lits_end lits
  pub hints_are : hints' ≡ take last.hints_end hints
  pub rows_are : rows' ≡ take n rows
  pub fewer : n ≤ length rows

pub cut_steps : (lits lits' : List ℕ) (hints hints' : List Ref) (rows rows' : List Row) (n : ℕ) (steps : List Step) → IsCut lits lits' hints hints' rows rows' n → IsLaidOut lits hints rows →
    steps_behind lits hints no_row rows ≡ steps → steps_behind lits' hints' no_row rows' ≡ take n steps
cut_steps lits lits' hints hints' rows rows' n steps cut laid is =
    ap (λ (xs : List ℕ). steps_behind xs hints' no_row rows') (cut.lits_are ∙ ap (λ (r : Row). take r.lits_end lits) cut.last_is)
    ∙ ap (λ (xs : List Ref). steps_behind (take (get_or (no_row ∷ rows) n no_row).lits_end lits) xs no_row rows') (cut.hints_are ∙ ap (λ (r : Row). take r.hints_end hints) cut.last_is)
    ∙ ap (steps_behind (take (get_or (no_row ∷ rows) n no_row).lits_end lits) (take (get_or (no_row ∷ rows) n no_row).hints_end hints) no_row) cut.rows_are
    ∙ steps_cut lits hints no_row rows n no_row laid.fills cut.fewer ∙ ap (take n) is

pub cut_laid : (lits lits' : List ℕ) (hints hints' : List Ref) (rows rows' : List Row) (n : ℕ) → IsCut lits lits' hints hints' rows rows' n → IsLaidOut lits hints rows → IsLaidOut lits' hints' rows'
cut_laid lits lits' hints hints' rows rows' n cut laid =
    let last : Row = get_or (no_row ∷ rows) n no_row in
    let within = last_within (length lits) (length hints) no_row rows n no_row laid.fills cut.fewer in
    let long : length lits' ≡ last.lits_end = ap length (cut.lits_are ∙ ap (λ (r : Row). take r.lits_end lits) cut.last_is) ∙ length-take-le last.lits_end lits within.0 in
    let cited : length hints' ≡ last.hints_end = ap length (cut.hints_are ∙ ap (λ (r : Row). take r.hints_end hints) cut.last_is) ∙ length-take-le last.hints_end hints within.1 in record {
      fills = subst (λ k. FillsBehind k (length hints') no_row rows') (sym long)
          (subst (λ k. FillsBehind last.lits_end k no_row rows') (sym cited)
          (subst (FillsBehind last.lits_end last.hints_end no_row) (sym cut.rows_are) (fills_cut (length lits) (length hints) no_row rows n no_row laid.fills cut.fewer)));
      few = (let few = laid.few in let k = within.1 in omega arith);
      sets = subst (All (λ (s : Step). IsLitSet s.clause)) (sym (cut_steps lits lits' hints hints' rows rows' n (steps_behind lits hints no_row rows) cut laid refl))
          (All-take (λ (s : Step). IsLitSet s.clause) n (steps_behind lits hints no_row rows) laid.sets);
    }
