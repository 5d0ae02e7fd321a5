-- Rows, and the lines that tell them.
use Rattle.std.proofs.Common.{◌≡◌, ◌∙◌, ap, sym, refl, subst, ℕ, zero, suc, ◌+◌, ◌/◌, ◌%◌, ◌<◌, arith}
use Rattle.std.proofs.Common.{Bool, true, false, List, [], ◌∷◌, ◌++◌, append-nil, length, length-append, drop}
use Rattle.std.specs.Prelude.{replicate, ◌==◌, if◌then◌else◌}
use Rattle.std.proofs.lemmas.List.{replicate_more}
use Rattle.std.proofs.Math.Seq.{drop-append_seam}
use Rattle.report_form.specs.declared.rows.Row.{Row}
use Rattle.report_form.specs.Rows.{IsRow}
use Rattle.report_form.specs.Lines.{Fit}
use Rattle.report_form.proofs.Walks.{fit_append}
use Rattle.form_laws.proofs.Lists.{lines_to}

-- each row has one line
pub record Tells (last : ℕ) (rows : List Row) (lines : List (List ℕ)) : Type 0 where
  pub fit : Fit last rows lines
  pub count : length lines ≡ length rows

-- further lines may stand behind
pub fit_front : (last : ℕ) (rows : List Row) (lines more : List (List ℕ)) → Fit last rows lines
    → Fit last rows (lines ++ more)
fit_front last [] lines more fit = tt
fit_front last (r ∷ rows) [] more fit = absurd fit
fit_front last (r ∷ rows) (l ∷ lines) more fit = (fit.0, fit_front last rows lines more fit.1)

-- no row
pub tells_nothing : (last : ℕ) → Tells last [] []
tells_nothing last = record { fit = tt; count = refl }

-- one row
pub tells_row : (last : ℕ) (r : Row) (line : List ℕ) → IsRow last r line → Tells last (r ∷ []) (line ∷ [])
tells_row last r line is = record { fit = (is, tt); count = refl }

-- rows behind rows
pub tells_behind : (last : ℕ) (rows others : List Row) (lines more : List (List ℕ)) → Tells last rows lines
    → Tells last others more → Tells last (rows ++ others) (lines ++ more)
tells_behind last rows others lines more one two =
    let size : length rows ≡ length lines = sym one.count in
    let behind : drop (length rows) (lines ++ more) ≡ more =
    ap (λ n. drop n (lines ++ more)) size ∙ drop-append_seam lines more in
    record {
      fit = fit_append last rows others (lines ++ more) (fit_front last rows lines more one.fit)
          (subst (Fit last others) (sym behind) two.fit);
      count =
          let a = length-append lines more in
          let b = length-append rows others in
          let c = one.count in
          let d = two.count in
          omega (arith, a, b, c, d);
    }

-- one row in front
pub tells_more : (last : ℕ) (r : Row) (line : List ℕ) (rows : List Row) (lines : List (List ℕ))
    → IsRow last r line
    → Tells last rows lines → Tells last (r ∷ rows) (line ∷ lines)
tells_more last r line rows lines is more = record { fit = (is, more.fit); count = ap suc more.count }

-- ---- lines with numbers

-- rows of one kind
tells_each : (last : ℕ) (r : Row) (piece : ℕ → List ℕ) (n : ℕ) → ((k : ℕ) → k < n → IsRow last r (piece k))
    → Tells last (replicate n r) (lines_to piece n)
unfolding lines_to
tells_each last r piece zero each = tells_nothing last
tells_each last r piece (suc n) each =
    let more : replicate n r ++ r ∷ [] ≡ replicate (suc n) r =
    replicate_more n r ∙ (let e : n + 1 ≡ suc n = omega arith in ap (λ m. replicate m r) e) in
    subst (λ rows. Tells last rows (lines_to piece (suc n))) more
    (tells_behind last (replicate n r) (r ∷ []) (lines_to piece n) (piece n ∷ [])
    (tells_each last r piece n (λ k below. each k (omega arith))) (tells_row last r (piece n) (each n
    (omega arith))))

-- sixteen to a line, and a last line of what is left
abbrev pub sixteens : ℕ → Row → Row → List Row
sixteens n full rest = replicate (n / 16) full ++ replicate (if n % 16 == 0 then 0 else 1) rest

-- none is left, or some are
pub zero_left : (n : ℕ) → n % 16 ≡ 0 → (n % 16 == 0) ≡ true
zero_left n is = grind (arith, is)

pub some_left : (n : ℕ) → 0 < n % 16 → (n % 16 == 0) ≡ false
some_left n some = grind (arith, some)

pub tells_sixteens : (last n : ℕ) (full rest : Row) (piece : ℕ → List ℕ)
    → ((k : ℕ) → k < n / 16 → IsRow last full (piece k)) → (0 < n % 16 → IsRow last rest (piece (n / 16)))
    → Tells last (sixteens n full rest) (lines_to piece ((n + 15) / 16))
unfolding lines_to
tells_sixteens last n full rest piece each more = by (n % 16) refl (tells_each last full piece (n / 16) each)
  where
    by : (r : ℕ) → n % 16 ≡ r → Tells last (replicate (n / 16) full) (lines_to piece (n / 16))
        → Tells last (sixteens n full rest) (lines_to piece ((n + 15) / 16))
    by zero is whole =
        let none : (n + 15) / 16 ≡ n / 16 = omega (arith, is) in
        let rows : replicate (n / 16) full ≡ sixteens n full rest =
        sym (ap (λ (b : Bool). replicate (n / 16) full
        ++ replicate (if b then 0 else 1) rest) (zero_left n is)
        ∙ append-nil (replicate (n / 16) full)) in
        subst (λ k. Tells last (sixteens n full rest) (lines_to piece k)) (sym none)
        (subst (λ rs. Tells last rs (lines_to piece (n / 16))) rows whole)
    by (suc r) is whole =
        let some : 0 < n % 16 = omega (arith, is) in
        let next : (n + 15) / 16 ≡ suc (n / 16) = omega (arith, is) in
        let rows : replicate (n / 16) full ++ rest ∷ [] ≡ sixteens n full rest =
        sym (ap (λ (b : Bool). replicate (n / 16) full
        ++ replicate (if b then 0 else 1) rest) (some_left n some)) in
        subst (λ k. Tells last (sixteens n full rest) (lines_to piece k)) (sym next)
        (subst (λ rs. Tells last rs (lines_to piece (suc (n / 16)))) rows
        (tells_behind last (replicate (n / 16) full) (rest ∷ []) (lines_to piece (n / 16)) (piece (n / 16)
        ∷ []) whole
        (tells_row last rest (piece (n / 16)) (more some))))
