-- An expression has no value exactly where one of its labels has none.
use Rattle.std.proofs.Common.{◌≡◌, ℕ, zero, suc, ◌-◌, ◌≤◌, ◌&&◌, ◌||◌, not, Bool, true, false, ℤ, pos, List}
use Rattle.std.proofs.Common.{[], ◌∷◌, length, take, drop, Option, Some, None, refl, sym}
use Rattle.std.specs.Prelude.{is_none, is_some, if◌then◌else◌, option_map}
use Rattle.std.specs.List.{list_all, list_any}
use Rattle.z_text.proofs.Longest.{longest}
use Rattle.z_text.specs.Expressions.{add, are_signed_terms, end_of, expression_of, HasCause, is_expression}
use Rattle.z_text.specs.Expressions.{is_label, is_sign, is_term, IsLongest, lacks_value, part, signed, sum_of}
use Rattle.z_text.specs.Expressions.{term_value, value_of_kind, value_to, with_value}
use Rattle.z_text.specs.Labels.{value_in}
use Rattle.z_text.specs.Line.{as_read, span}
use Rattle.z_text.specs.Numbers.{number_of}
use Rattle.z_text.specs.Tokens.{AreTokensIn, is_good_number, is_numeric}
use Rattle.z_text.specs.declared.labels.Labels.{Labels}
use Rattle.z_text.specs.declared.token.Token.{Token}
use Rattle.z_text.specs.declared.token.TokenKind.{TokenKind}
use Rattle.z_text.specs.declared.token.TokenKind.TheVariants.{Name, Number, Hex, Sign, Open, Close, Comma}
use Rattle.z_text.specs.declared.token.TokenKind.TheVariants.{Star}
use Rattle.std.proofs.lemmas.Bool.{or_left, or_right, and_from, and_parts}

all_drop : (p : Token → Bool) (n : ℕ) (ts : List Token) → list_all p ts ≡ true → list_all p (drop n ts) ≡ true
all_drop p zero ts h = h
all_drop p (suc n) [] h = refl
all_drop p (suc n) (t ∷ ts) h = all_drop p n ts (and_parts (p t) (list_all p ts) h).1

all_take : (p : Token → Bool) (n : ℕ) (ts : List Token) → list_all p ts ≡ true → list_all p (take n ts) ≡ true
all_take p zero ts h = refl
all_take p (suc n) [] h = refl
all_take p (suc n) (t ∷ ts) h =
    let parts = and_parts (p t) (list_all p ts) h in and_from (p t) _ parts.0 (all_take p n ts parts.1)

abbrev serves : Token → Bool
serves t = is_sign t.kind || is_term t.kind

signed_serve : (ts : List Token) → are_signed_terms ts ≡ true → list_all serves ts ≡ true
signed_serve [] h = refl
signed_serve (s ∷ []) h = cc
signed_serve (s ∷ t ∷ ts) h =
    let parts = and_parts (is_sign s.kind && is_term t.kind) (are_signed_terms ts) h in
    let pair = and_parts (is_sign s.kind) (is_term t.kind) parts.0 in
    and_from (serves s) _ (or_left _ _ pair.0) (and_from (serves t) _ (or_right _ _ pair.1)
    (signed_serve ts parts.1))

choice_serve : (b : Bool) (t : Token) (ts : List Token) → is_term t.kind ≡ b → (if b then are_signed_terms ts
    else are_signed_terms (t ∷ ts)) ≡ true → list_all serves (t ∷ ts) ≡ true
choice_serve true t ts e h = and_from (serves t) _ (or_right _ _ e) (signed_serve ts h)
choice_serve false t ts e h = signed_serve (t ∷ ts) h

whole_serve : (ts : List Token) → is_expression ts ≡ true → list_all serves ts ≡ true
whole_serve [] h = refl
whole_serve (t ∷ ts) h = choice_serve (is_term t.kind) t ts refl h

with_one : (negative : Bool) (v b : Option ℤ) (rest : Bool) → is_none b ≡ rest →
    is_none (add (signed negative v) b) ≡ (is_none v || rest)
with_one negative None b rest e = refl
with_one negative (Some v) None rest e = e
with_one negative (Some v) (Some w) rest e = e

with_number : (negative : Bool) (o : Option ℕ) (b : Option ℤ) (rest : Bool) → is_some o ≡ true →
    is_none b ≡ rest → is_none (add (signed negative (option_map pos o)) b) ≡ rest
with_number negative None b rest good e = cc
with_number negative (Some n) b rest good e = with_one negative (Some (pos n)) b rest e

by_kind : (k : TokenKind) (text : List ℕ) (labels : Labels) (here : ℕ) (negative : Bool) (a b :
    Option ℤ) (rest : Bool) →
    (not (is_numeric k) || is_some (number_of k text)) ≡ true → (is_sign k || is_term k) ≡ true →
    is_none a ≡ rest → is_none b ≡ rest →
    is_none (if is_sign k then a else add (signed negative (value_of_kind k text labels here)) b) ≡
    ((is_label k && is_none (value_in labels (as_read text))) || rest)
by_kind Name text labels here negative a b rest good fits e f =
    with_one negative (value_in labels (as_read text)) b rest f
by_kind Number text labels here negative a b rest good fits e f =
    with_number negative (number_of Number text) b rest good f
by_kind Hex text labels here negative a b rest good fits e f =
    with_number negative (number_of Hex text) b rest good f
by_kind Sign text labels here negative a b rest good fits e f = e
by_kind Open text labels here negative a b rest good fits e f = cc
by_kind Close text labels here negative a b rest good fits e f = cc
by_kind Comma text labels here negative a b rest good fits e f = cc
by_kind Star text labels here negative a b rest good fits e f = with_one negative (Some (pos here)) b rest f

no_sum : (text : List ℕ) (labels : Labels) (here : ℕ) (negative : Bool) (ts : List Token) →
    list_all (is_good_number text) ts ≡ true → list_all serves ts ≡ true →
    is_none (sum_of text labels here negative ts) ≡ list_any (lacks_value text labels) ts
unfolding sum_of term_value is_good_number
no_sum text labels here negative [] good fits = refl
no_sum text labels here negative (t ∷ ts) good fits =
    let goods = and_parts (is_good_number text t) (list_all (is_good_number text) ts) good in
    let serve = and_parts (serves t) (list_all serves ts) fits in
    by_kind t.kind (span t.first t.end text) labels here negative _ _
    (list_any (lacks_value text labels) ts) goods.0 serve.0 (no_sum text labels here _ ts goods.1 serve.1)
    (no_sum text labels here false ts goods.1 serve.1)

by_value : (text : List ℕ) (ts : List Token) (at : ℕ) (labels : Labels) (end : ℕ) (v : Option ℤ) →
    end_of ts at ≡ Some end → is_none v ≡ list_any (lacks_value text labels) (part at end ts) →
    HasCause text ts at labels (with_value v end)
by_value text ts at labels end None is none = (end, is, sym none)
by_value text ts at labels end (Some v) is none = (is, sym none)

by_end : (text : List ℕ) (ts : List Token) (at : ℕ) (labels : Labels) (here : ℕ) (o : Option ℕ) →
    AreTokensIn text ts → end_of ts at ≡ o → IsLongest ts at o →
    HasCause text ts at labels (value_to text ts at labels here o)
by_end text ts at labels here None good is form = is
by_end text ts at labels here (Some end) good is form =
    by_value text ts at labels end _ is (no_sum text labels here false (part at end ts)
    (all_take (is_good_number text) (end - at) (drop at ts)
    (all_drop (is_good_number text) at ts good.numbers)) (whole_serve (part at end ts) form.0))

pub has_cause : (text : List ℕ) (ts : List Token) (at : ℕ) (labels : Labels) (here : ℕ) →
    AreTokensIn text ts → at ≤ length ts → HasCause text ts at labels (expression_of text ts at labels here)
unfolding expression_of
has_cause text ts at labels here good place =
    by_end text ts at labels here (end_of ts at) good refl (longest ts at place)
