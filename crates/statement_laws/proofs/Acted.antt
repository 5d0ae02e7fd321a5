-- The statements of a text, one after the other, each doing what its operation does.
use Rattle.std.proofs.Common.{◌≡◌, ℕ, zero, suc, ◌+◌, ◌<◌, false, List, [], ◌∷◌}
use Rattle.std.proofs.Common.{◌++◌, length, get_or, Option, Some, None, Result, Ok, Err, refl, sym, ap}
use Rattle.std.proofs.Common.{subst, arith, inl, inr, ◌⊎◌, ◌∙◌}
use Rattle.std.specs.List.{Contains}
use Rattle.z_text.specs.Line.{span}
use Rattle.z_text.specs.Tokens.{tokens_of}
use Rattle.z_text.specs.declared.token.TextFault.{TextFault}
use Rattle.z_text.specs.declared.token.Token.{Token}
use Rattle.z_fields.specs.Chain.{◌>>=◌}
use Rattle.z_operands.specs.Operations.{operation_named}
use Rattle.z_fields.specs.Pieces.{without_end}
use Rattle.z_fields.specs.declared.fault.Kind.TheVariants.{BadDirective, DoubleLabel}
use Rattle.z_operands.specs.declared.operation.Operation.{Operation}
use Rattle.z_reading.specs.Listing.{Plan, by_kind, said_line, named_line, operation_line, line_gives}
use Rattle.z_reading.specs.Listing.{is_bad_label, is_defined, label_in, operands_in, operation_in}
use Rattle.z_setup.specs.Machine.{tokens_in, tokens_or, end_of}
use Rattle.statement_laws.specs.Statements.{Statement, said_by, said_with, said_on, said_from, behind}
use Rattle.z_assemble.specs.Whole.{First}
use Rattle.z_assemble.proofs.Passed.{unless_ok, same_ok}
use Rattle.z_assemble.proofs.Plans.{IsInTable, IsAnyInTable, operation_in_table}

-- the statement stands where this plan is, and leaves that one
pub record Acts (s : Statement) (p r : Plan) : Type 0 where
  pub here : s.here ≡ p.here
  pub labels : s.labels ≡ p.labels
  pub tokens : s.operands ≡ operands_in (tokens_in s.text)
  pub end_is : s.end ≡ end_of (operation_in (tokens_in s.text))
  pub fine : is_bad_label s.operation s.label ≡ false
  pub new : is_defined s.label p.labels ≡ false
  pub known : IsInTable s.operation
  pub does : operation_line s.operation s.number s.label s.text s.end s.operands p ≡ Ok r

-- statements one after the other
abbrev pub Walk : List Statement → Plan → Plan → Type 0
Walk [] p q = p ≡ q
Walk (s ∷ ss) p q = (r : Plan) × Acts s p r × Walk ss r q

-- ---- a line

-- a line's statement, if it says something
abbrev Leaves : List Statement → Plan → Plan → Type 0
Leaves [] p r = p ≡ r
Leaves (s ∷ ss) p r = (ss ≡ []) × Acts s p r

named_leaves : (m : Option Operation) (n : ℕ) (line : List ℕ) (ts : List Token) (o : Token) (p r : Plan) →
    tokens_in line ≡ ts → operation_in ts ≡ Some o → IsAnyInTable m →
    named_line m n (label_in line ts) line o.end (operands_in ts) p ≡ Ok r →
    Leaves (said_by m n line ts o p) p r
named_leaves None n line ts o p r same found known e = absurd (cc)
named_leaves (Some op) n line ts o p r same found known e =
    let a = unless_ok (is_bad_label op (label_in line ts)) _ r BadDirective e in
    let b = unless_ok (is_defined (label_in line ts) p.labels) _ r DoubleLabel a.1 in (
      refl,
      record {
        here = refl;
        labels = refl;
        tokens = ap operands_in (sym same);
        end_is = sym (ap (λ q. end_of (operation_in q)) same ∙ ap end_of found);
        fine = a.0;
        new = b.0;
        known = known;
        does = b.1;
      },
    )

said_leaves : (n : ℕ) (line : List ℕ) (ts : List Token) (o : Option Token) (p r : Plan) →
    tokens_in line ≡ ts → operation_in ts ≡ o →
    said_line n line ts o p ≡ Ok r → Leaves (said_with n line ts o p) p r
said_leaves n line ts None p r same found e = same_ok p r e
said_leaves n line ts (Some o) p r same found e =
    let a = unless_ok p.ended _ r BadDirective e in
    named_leaves (operation_named (span o.first o.end line)) n line ts o p r same found
    (operation_in_table (span o.first o.end line)) a.1

split_leaves : (t : Result (List Token) TextFault) (n : ℕ) (line : List ℕ) (p r : Plan) →
    tokens_in line ≡ tokens_or t → (by_kind t >>= λ ts. said_line n line ts (operation_in ts) p) ≡ Ok r →
    Leaves (said_with n line (tokens_or t) (operation_in (tokens_or t)) p) p r
split_leaves (Ok ts) n line p r same e = said_leaves n line ts (operation_in ts) p r same refl e
split_leaves (Err k) n line p r same e = absurd (cc)

tokens_are : (line : List ℕ) → tokens_in line ≡ tokens_or (tokens_of line)
unfolding tokens_in
tokens_are line = refl

line_leaves : (n : ℕ) (line : List ℕ) (p r : Plan) → line_gives n line p ≡ Ok r →
    Leaves (said_on n line p) p r
unfolding line_gives said_on tokens_in
line_leaves n line p r e = split_leaves (tokens_of line) n line p r (tokens_are line) e

-- ---- all lines

said_more : (n : ℕ) (l : List ℕ) (ls : List (List ℕ)) (p r : Plan) → line_gives n (without_end l) p ≡ Ok r →
    said_from n (l ∷ ls) p ≡ said_on n (without_end l) p ++ said_from (n + 1) ls r
unfolding said_from
said_more n l ls p r e = ap (λ o. said_on n (without_end l) p ++ behind o (said_from (n + 1) ls)) e

step : (ss rest : List Statement) (p r q : Plan) → Leaves ss p r → Walk rest r q → Walk (ss ++ rest) p q
step [] rest p r q o w = subst (λ x. Walk rest x q) (sym o) w
step (s ∷ ss) rest p r q o w = (r, o.1, subst (λ xs. Walk (xs ++ rest) r q) (sym o.0) w)

pub walk : (n : ℕ) (ls : List (List ℕ)) (p q : Plan) → First n ls p q → Walk (said_from n ls p) p q
unfolding said_from
walk n [] p q h = h
walk n (l ∷ ls) p q h =
    subst (λ ss. Walk ss p q) (sym (said_more n l ls p h.0 h.1))
    (step (said_on n (without_end l) p) (said_from (n + 1) ls h.0) p h.0 q
    (line_leaves n (without_end l) p h.0 h.1) (walk (n + 1) ls h.0 q h.2))

-- ---- elements of a list

pub first_is : {X : Type 0} (x : X) (xs : List X) → Contains (x ∷ xs) x
first_is x xs = (0, omega arith, refl)

pub later_is : {X : Type 0} (x y : X) (xs : List X) → Contains xs y → Contains (x ∷ xs) y
later_is x y xs c = (suc c.0, omega (arith, c.1), c.2)

is_at : {X : Type 0} (x y : X) (xs : List X) (k : ℕ) → k < length (x ∷ xs) → get_or (x ∷ xs) k y ≡ y →
    (x ≡ y) ⊎ Contains xs y
is_at x y xs zero h e = inl e
is_at x y xs (suc k) h e = inr (k, omega arith, e)

pub either_is : {X : Type 0} (x y : X) (xs : List X) → Contains (x ∷ xs) y → (x ≡ y) ⊎ Contains xs y
either_is x y xs c = is_at x y xs c.0 c.1 c.2

pub none_is : {X : Type 0} (x : X) → Contains [] x → ⊥
none_is x c = absurd (omega (arith, c.1))
