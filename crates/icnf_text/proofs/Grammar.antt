-- Statements of tokens, with one more token.
use Rattle.std.proofs.Common.{◌≡◌, ◌∙◌, ℕ, ◌+◌, List, [], ◌∷◌, ◌++◌, map, Bool, true, false, cond, refl, ap, sym, append_assoc, append-nil}
use Rattle.std.specs.Prelude.{Option, Some, None, is_some, filter, count_by}
use Rattle.std.specs.Option.{option_or}
use Rattle.std.proofs.lemmas.List.Sums.{sum_by_push}
use Rattle.icnf_text.specs.declared.faults.Reason.{Reason}
use Rattle.icnf_text.specs.declared.faults.Fault.{Fault}
use Rattle.icnf_text.specs.Layout.{Token}
use Rattle.icnf_text.specs.Number.{is_zero, is_literal, code_of}
use Rattle.icnf_text.specs.Judgement.{groups_after, groups_of, open_after, open_of, lits_of, statement_of, statements_of, reason_of, right_after, fault_on, wrong_after}

-- one token more
pub open_after-push : (before tokens : List Token) (t : Token) → open_after before (tokens ++ t ∷ []) ≡ cond (is_zero t.bytes) [] (open_after before tokens ++ t ∷ [])
open_after-push before [] t = refl
open_after-push before (u ∷ us) t = by (is_zero u.bytes) (is_zero t.bytes) _ _ _ _ (open_after-push [] us t) (open_after-push (before ++ u ∷ []) us t)
  where
    by : (zu zt : Bool) (a b c d : List Token) → a ≡ cond zt [] (c ++ t ∷ []) → b ≡ cond zt [] (d ++ t ∷ []) → cond zu a b ≡ cond zt [] (cond zu c d ++ t ∷ [])
    by true zt a b c d h k = h
    by false zt a b c d h k = k

pub groups_after-push : (before tokens : List Token) (t : Token) → groups_after before (tokens ++ t ∷ []) ≡ cond (is_zero t.bytes) (groups_after before tokens ++ (open_after before tokens ++ t ∷ []) ∷ []) (groups_after before tokens)
groups_after-push before [] t = refl
groups_after-push before (u ∷ us) t = by (is_zero u.bytes) (is_zero t.bytes) (before ++ u ∷ []) _ _ _ _ _ _ (groups_after-push [] us t) (groups_after-push (before ++ u ∷ []) us t)
  where
    by : (zu zt : Bool) (g : List Token) (a b c d : List (List Token)) (o p : List Token) → a ≡ cond zt (c ++ (o ++ t ∷ []) ∷ []) c → b ≡ cond zt (d ++ (p ++ t ∷ []) ∷ []) d →
        cond zu (g ∷ a) b ≡ cond zt (cond zu (g ∷ c) d ++ (cond zu o p ++ t ∷ []) ∷ []) (cond zu (g ∷ c) d)
    by true true g a b c d o p h k = ap (λ (r : List (List Token)). g ∷ r) h
    by true false g a b c d o p h k = ap (λ (r : List (List Token)). g ∷ r) h
    by false zt g a b c d o p h k = k

map-push : {X Y : Type 0} (f : X → Y) (xs : List X) (x : X) → map f (xs ++ x ∷ []) ≡ map f xs ++ f x ∷ []
map-push f [] x = refl
map-push {X} {Y} f (y ∷ ys) x = ap (λ (r : List Y). f y ∷ r) (map-push f ys x)

pub filter-push : {X : Type 0} (p : X → Bool) (xs : List X) (x : X) → filter p (xs ++ x ∷ []) ≡ filter p xs ++ cond (p x) (x ∷ []) []
filter-push p [] x = by (p x) x
  where
    by : {X : Type 0} (b : Bool) (x : X) → cond b (x ∷ []) [] ≡ cond b (x ∷ []) []
    by b x = refl
filter-push p (y ∷ ys) x = by (p y) y _ _ _ (filter-push p ys x)
  where
    by : {X : Type 0} (b : Bool) (y : X) (all left right : List X) → all ≡ left ++ right → cond b (y ∷ all) all ≡ cond b (y ∷ left) left ++ right
    by {X} true y all left right h = ap (λ (r : List X). y ∷ r) h
    by false y all left right h = h

pub count_by-push : {X : Type 0} (p : X → Bool) (xs : List X) (x : X) → count_by p (xs ++ x ∷ []) ≡ count_by p xs + cond (p x) 1 0
count_by-push p xs x = sum_by_push (λ y. cond (p y) 1 0) xs x

-- a token that ends no statement, and one that does
pub open_of-more : (tokens : List Token) (t : Token) → is_zero t.bytes ≡ false → open_of (tokens ++ t ∷ []) ≡ open_of tokens ++ t ∷ []
open_of-more tokens t h = open_after-push [] tokens t ∙ ap (λ z. cond z [] (open_of tokens ++ t ∷ [])) h

pub open_of-zero : (tokens : List Token) (t : Token) → is_zero t.bytes ≡ true → open_of (tokens ++ t ∷ []) ≡ []
open_of-zero tokens t h = open_after-push [] tokens t ∙ ap (λ z. cond z [] (open_of tokens ++ t ∷ [])) h

pub statements_of-more : (tokens : List Token) (t : Token) → is_zero t.bytes ≡ false → statements_of (tokens ++ t ∷ []) ≡ statements_of tokens
statements_of-more tokens t h = ap (map statement_of) (groups_after-push [] tokens t ∙ ap (λ z. cond z (groups_of tokens ++ (open_of tokens ++ t ∷ []) ∷ []) (groups_of tokens)) h)

pub statements_of-zero : (tokens : List Token) (t : Token) → is_zero t.bytes ≡ true → statements_of (tokens ++ t ∷ []) ≡ statements_of tokens ++ statement_of (open_of tokens ++ t ∷ []) ∷ []
statements_of-zero tokens t h =
    ap (map statement_of) (groups_after-push [] tokens t ∙ ap (λ z. cond z (groups_of tokens ++ (open_of tokens ++ t ∷ []) ∷ []) (groups_of tokens)) h)
    ∙ map-push statement_of (groups_of tokens) (open_of tokens ++ t ∷ [])

pub lits_of-push : (tokens : List Token) (t : Token) (l : Bool) → is_literal t.bytes ≡ l → lits_of (tokens ++ t ∷ []) ≡ cond l (lits_of tokens ++ code_of t.bytes ∷ []) (lits_of tokens)
lits_of-push tokens t true h =
    ap (map (λ (u : Token). code_of u.bytes)) (filter-push (λ (u : Token). is_literal u.bytes) tokens t ∙ ap (λ l. filter (λ (u : Token). is_literal u.bytes) tokens ++ cond l (t ∷ []) []) h)
    ∙ map-push (λ (u : Token). code_of u.bytes) (filter (λ (u : Token). is_literal u.bytes) tokens) t
lits_of-push tokens t false h =
    ap (map (λ (u : Token). code_of u.bytes)) (filter-push (λ (u : Token). is_literal u.bytes) tokens t ∙ ap (λ l. filter (λ (u : Token). is_literal u.bytes) tokens ++ cond l (t ∷ []) []) h ∙ append-nil (filter (λ (u : Token). is_literal u.bytes) tokens))

-- judgement of one token more
option_or-none : {X : Type 0} (o : Option X) → option_or o None ≡ o
option_or-none None = refl
option_or-none (Some x) = refl

pub wrong_after-push : (before tokens : List Token) (t : Token) → wrong_after before (tokens ++ t ∷ []) ≡ option_or (wrong_after before tokens) (fault_on t.line (reason_of (before ++ tokens) t.bytes))
wrong_after-push before [] t = option_or-none _ ∙ ap (λ (b : List Token). fault_on t.line (reason_of b t.bytes)) (sym (append-nil before))
wrong_after-push before (u ∷ us) t =
    ap (option_or (fault_on u.line (reason_of before u.bytes))) (wrong_after-push (before ++ u ∷ []) us t)
    ∙ by (fault_on u.line (reason_of before u.bytes)) _ _
    ∙ ap (λ (b : List Token). option_or (wrong_after before (u ∷ us)) (fault_on t.line (reason_of b t.bytes))) (append_assoc before (u ∷ []) us)
  where
    by : (a b c : Option Fault) → option_or a (option_or b c) ≡ option_or (option_or a b) c
    by None b c = refl
    by (Some x) b c = refl

none_left : {X : Type 0} (a b : Option X) → option_or a b ≡ None → (a ≡ None) × (b ≡ None)
none_left None b h = (refl, h)
none_left (Some x) b h = cc

no_fault : (line : ℕ) (why : Option Reason) → fault_on line why ≡ None → why ≡ None
no_fault line None h = refl
no_fault line (Some r) h = cc

pub right_all : (before tokens : List Token) → wrong_after before tokens ≡ None → right_after before tokens ≡ before ++ tokens
right_all before [] h = sym (append-nil before)
right_all before (t ∷ ts) h =
    let parts = none_left (fault_on t.line (reason_of before t.bytes)) (wrong_after (before ++ t ∷ []) ts) h in
    let none = no_fault t.line (reason_of before t.bytes) parts.0 in
    ap (λ (w : Option Reason). cond (is_some w) before (right_after (before ++ t ∷ []) ts)) none
    ∙ right_all (before ++ t ∷ []) ts parts.1 ∙ append_assoc before (t ∷ []) ts

pub right_stops : (before tokens : List Token) (t : Token) (why : Reason) → wrong_after before tokens ≡ None → reason_of (before ++ tokens) t.bytes ≡ Some why → right_after before (tokens ++ t ∷ []) ≡ before ++ tokens
right_stops before [] t why h is =
    ap (λ (w : Option Reason). cond (is_some w) before (before ++ t ∷ [])) (ap (λ (b : List Token). reason_of b t.bytes) (sym (append-nil before)) ∙ is) ∙ sym (append-nil before)
right_stops before (u ∷ us) t why h is =
    let parts = none_left (fault_on u.line (reason_of before u.bytes)) (wrong_after (before ++ u ∷ []) us) h in
    let none = no_fault u.line (reason_of before u.bytes) parts.0 in
    ap (λ (w : Option Reason). cond (is_some w) before (right_after (before ++ u ∷ []) (us ++ t ∷ []))) none
    ∙ right_stops (before ++ u ∷ []) us t why parts.1 (ap (λ (b : List Token). reason_of b t.bytes) (append_assoc before (u ∷ []) us) ∙ is)
    ∙ append_assoc before (u ∷ []) us

-- what stands behind the first wrong token changes nothing
pub wrong_stays : (before tokens more : List Token) (f : Fault) → wrong_after before tokens ≡ Some f → wrong_after before (tokens ++ more) ≡ Some f
wrong_stays before [] more f h = cc
wrong_stays before (t ∷ ts) more f h = by (fault_on t.line (reason_of before t.bytes)) (wrong_after (before ++ t ∷ []) ts) (wrong_after (before ++ t ∷ []) (ts ++ more)) h (wrong_stays (before ++ t ∷ []) ts more f)
  where
    by : (a b c : Option Fault) → option_or a b ≡ Some f → (b ≡ Some f → c ≡ Some f) → option_or a c ≡ Some f
    by None b c h k = k h
    by (Some x) b c h k = h

pub right_stays : (before tokens more : List Token) (f : Fault) → wrong_after before tokens ≡ Some f → right_after before (tokens ++ more) ≡ right_after before tokens
right_stays before [] more f h = cc
right_stays before (t ∷ ts) more f h = by (reason_of before t.bytes) (wrong_after (before ++ t ∷ []) ts) (right_after (before ++ t ∷ []) ts) (right_after (before ++ t ∷ []) (ts ++ more)) h (right_stays (before ++ t ∷ []) ts more f)
  where
    by : (why : Option Reason) (w : Option Fault) (a b : List Token) → option_or (fault_on t.line why) w ≡ Some f → (w ≡ Some f → b ≡ a) → cond (is_some why) before b ≡ cond (is_some why) before a
    by None w a b h k = k h
    by (Some x) w a b h k = refl
