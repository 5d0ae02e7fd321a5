-- The generator's listing of a number is the text of lines that stand for an image.
use Rattle.std.proofs.Common.{◌≡◌, ℕ, zero, suc, ◌+◌, ◌*◌, ◌/◌, ◌%◌, ◌<◌, ◌≤◌, ◌^◌, Bool, true, false, List}
use Rattle.std.proofs.Common.{[], ◌∷◌, ◌++◌}
use Rattle.std.proofs.Common.{refl, ap, ap₂, ◌∙◌, arith, subst, append_assoc, mul-le-mul, lit<, lit≤}
use Rattle.std.specs.Prelude.{◌==◌, if◌then◌else◌, codes}
use Rattle.std.specs.Fmt.{decimal}
use Rattle.std.proofs.lemmas.List.{append-nil}
use Rattle.std.proofs.lemmas.Fmt.{decimal_digit, decimal_step}
use Rattle.z_assemble.specs.Whole.{FirstFault}
use Rattle.z_assemble.proofs.Says.{both_fail}
use Rattle.z_assemble.specs.declared.fault.ListingFault.{ListingFault}
use Rattle.tx_gen.specs.Draws.{draw}
use Rattle.tx_gen.specs.Programs.{cpus, stride, rounds, counter, line, cpu_line}
use Rattle.tx_gen.specs.Programs.{program_text, show_line, for_first}
use Rattle.tx_gen.specs.Programs.{listing_of}
use Rattle.listing_laws.specs.Generated.{HasImage}
use Rattle.listing_laws.proofs.Texts.{Line, ended, text_of_lines, text_append}
use Rattle.listing_laws.proofs.Generated.{cpu_line_of, show_line_of, end_line_of, program_lines, lghi_line}
use Rattle.listing_laws.proofs.Generated.{tbeginc_line, lg_line, aghi_line, stg_line, tend_line, brctg_line}
use Rattle.listing_laws.proofs.Generated.{svc_line}
use Rattle.listing_laws.proofs.Stand.{le_before, below_ten, cpus_to, programs_to, all_lines, they_stand}
use Rattle.listing_laws.proofs.Stand.{w_short}

-- ---- one program

regrouped : (a b c d e f g h : List ℕ)
    → a ++ (b ++ (c ++ (d ++ (e ++ (f ++ (g ++ (h ++ [])))))))
    ≡ (a ++ b) ++ ((c ++ (d ++ (e ++ f))) ++ (g ++ h))
regrouped a b c d e f g h = simp (append_assoc, append-nil)

-- numbers that the generator writes as they stand
zero_is : decimal 0 ≡ 48 ∷ []
zero_is = decimal_digit 0 (lit< tt)

one_is : decimal 1 ≡ 49 ∷ []
one_is = decimal_digit 1 (lit< tt)

two_is : decimal 2 ≡ 50 ∷ []
two_is = decimal_digit 2 (lit< tt)

step_is : (n : ℕ) (ds : List ℕ) → 10 ≤ n → n < 2 ^ 64 → decimal (n / 10) ≡ ds
    → decimal n ≡ ds ++ ((48 + n % 10) ∷ [])
step_is n ds high low e = decimal_step n high low ∙ ap (λ (t : List ℕ). t ++ ((48 + n % 10) ∷ [])) e

filter_is : decimal 65280 ≡ codes "65280"
filter_is =
    step_is 65280 (codes "6528") (lit≤ tt) (lit< tt) (step_is 6528 (codes "652") (lit≤ tt) (lit< tt)
    (step_is 652 (codes "65") (lit≤ tt) (lit< tt) (step_is 65 (codes "6") (lit≤ tt) (lit< tt) (decimal_digit
    6 (lit< tt)))))

first_is : decimal 65536 ≡ codes "65536"
first_is =
    step_is 65536 (codes "6553") (lit≤ tt) (lit< tt) (step_is 6553 (codes "655") (lit≤ tt) (lit< tt)
    (step_is 655 (codes "65") (lit≤ tt) (lit< tt) (step_is 65 (codes "6") (lit≤ tt) (lit< tt) (decimal_digit
    6 (lit< tt)))))

-- a line with two numbers
two_text : (label op s t : List ℕ) → List ℕ
two_text label op s t = (label ++ 32 ∷ (op ++ 32 ∷ (s ++ 44 ∷ t))) ++ 10 ∷ []

module _ (i n a : ℕ) (few : i < 10) (n_few : n < 32768) (a_few : a < 524288) where
  abbrev p : List ℕ
  p = codes "P" ++ decimal i

  abbrev l : List ℕ
  l = codes "L" ++ decimal i

  lghi_text : ended (lghi_line i n a few n_few a_few) ≡ line (codes "P" ++ (decimal i ++ (codes " LGHI 2," ++
      decimal n)))
  unfolding two_text
  lghi_text = ap₂ (two_text p (codes "LGHI")) two_is (append-nil (decimal n))

  tbeginc_text : ended (tbeginc_line i n a few n_few a_few)
      ≡ line (codes "L" ++ (decimal i ++ codes " TBEGINC 0,65280"))
  unfolding two_text
  tbeginc_text = ap₂ (two_text l (codes "TBEGINC")) zero_is (append-nil (decimal 65280) ∙ filter_is)

  lg_text : ended (lg_line i n a few n_few a_few) ≡ line (codes " LG 1," ++ decimal a)
  unfolding two_text
  lg_text = ap₂ (two_text [] (codes "LG")) one_is (append-nil (decimal a))

  aghi_text : ended (aghi_line i n a few n_few a_few) ≡ line (codes " AGHI 1,1")
  unfolding two_text
  aghi_text = ap₂ (two_text [] (codes "AGHI")) one_is (append-nil (decimal 1) ∙ one_is)

  stg_text : ended (stg_line i n a few n_few a_few) ≡ line (codes " STG 1," ++ decimal a)
  unfolding two_text
  stg_text = ap₂ (two_text [] (codes "STG")) one_is (append-nil (decimal a))

  brctg_text : ended (brctg_line i n a few n_few a_few) ≡ line (codes " BRCTG 2,L" ++ decimal i)
  unfolding two_text
  brctg_text = ap₂ (two_text [] (codes "BRCTG")) two_is (ap (λ (t : List ℕ). 76 ∷ t) (append-nil (decimal i)))

  svc_text : ended (svc_line i n a few n_few a_few) ≡ line (codes " SVC 0")
  svc_text = ap (λ (t : List ℕ). (32 ∷ (codes "SVC" ++ 32 ∷ t)) ++ 10 ∷ []) (append-nil (decimal 0) ∙ zero_is)

  program_is : text_of_lines (program_lines i n a few n_few a_few) ≡ program_text i n a
  unfolding program_text
  program_is =
      regrouped (ended (lghi_line i n a few n_few a_few)) (ended (tbeginc_line i n a few n_few a_few)) (ended
      (lg_line i n a few n_few a_few))
      (ended (aghi_line i n a few n_few a_few)) (ended (stg_line i n a few n_few a_few)) (ended (tend_line i
      n a few n_few a_few))
      (ended (brctg_line i n a few n_few a_few)) (ended (svc_line i n a few n_few a_few))
      ∙ ap₂ (λ (s t : List ℕ). s ++ t) (ap₂ (λ (s t : List ℕ). s ++ t) lghi_text tbeginc_text)
      (ap₂ (λ (s t : List ℕ). s ++ t)
      (ap₂ (λ (s t : List ℕ). s ++ t) lg_text (ap₂ (λ (s t : List ℕ). s ++ t) aghi_text (ap (λ (s : List ℕ).
      s ++ line (codes " TEND")) stg_text)))
      (ap₂ (λ (s t : List ℕ). s ++ t) brctg_text svc_text))

show_text : (w : ℕ) (few : w < 10 ^ 10) → ended (show_line_of w few) ≡ line (codes " SHOW 65536," ++ decimal
    w)
unfolding two_text
show_text w few = ap₂ (two_text [] (codes "SHOW")) first_is (append-nil (decimal w))

-- ---- all of them

module _ (c : ℕ) (most : c ≤ 8) where
  cpus_text : (j : ℕ) (h : j ≤ 8) → text_of_lines (cpus_to c most j h) ≡ for_first j cpu_line
  unfolding cpus_to
  cpus_text zero h = refl
  cpus_text (suc j) h =
      text_append (cpus_to c most j (le_before j 8 h)) (cpu_line_of j (below_ten j h) ∷ [])
      ∙ ap₂ (λ (s t : List ℕ). s ++ t) (cpus_text j (le_before j 8 h))
      (append-nil (ended (cpu_line_of j (below_ten j h))) ∙ ap (λ (t : List ℕ). line (codes " CPU P" ++ t))
      (append-nil (decimal j)))

  module _ (ns as_counters : ℕ → ℕ) (n_few : (i : ℕ) → ns i < 32768) (a_few : (i : ℕ) → as_counters i <
      524288) where
    programs_text : (j : ℕ) (h : j ≤ 8) → text_of_lines (programs_to c most ns as_counters n_few a_few j h) ≡
        for_first j (λ i. program_text i (ns i) (as_counters i))
    unfolding programs_to
    programs_text zero h = refl
    programs_text (suc j) h =
        text_append (programs_to c most ns as_counters n_few a_few j (le_before j 8 h)) (program_lines j (ns
        j) (as_counters j) (below_ten j h) (n_few j) (a_few j))
        ∙ ap₂ (λ (s t : List ℕ). s ++ t) (programs_text j (le_before j 8 h)) (program_is j (ns j)
        (as_counters j) (below_ten j h) (n_few j) (a_few j))

-- ---- the listing of a number

stride_few : (b : Bool) → (if b then 8 else 256) ≤ 256
stride_few true = omega arith
stride_few false = omega arith

module _ (number : ℕ) where
  few_cpus : cpus number ≤ 8
  few_cpus = omega arith

  some_cpus : 0 < cpus number
  some_cpus = omega arith

  narrow : stride number ≤ 256
  narrow = stride_few (draw number 1 % 2 == 0)

  few_rounds : (i : ℕ) → rounds number i < 32768
  few_rounds i = omega arith

  low_counters : (i : ℕ) → counter number i < 524288
  low_counters i = low (draw number (2 * i + 3) % 4) (stride number) (omega arith) narrow
    where
      low : (t s : ℕ) → t < 4 → s ≤ 256 → 65536 + t * s < 524288
      low t s h k = let fewer : t ≤ 4 = omega arith in let most : t * s ≤ 4 * 256 = mul-le-mul fewer k in
          omega arith

  abbrev shown : ℕ
  shown = 3 * stride number + 8

  shown_some : 0 < shown
  shown_some = omega arith

  shown_few : shown ≤ 65536
  shown_few = omega (arith, narrow)

  shown_short : shown < 10 ^ 10
  shown_short = w_short (cpus number) few_cpus (rounds number) (counter number) few_rounds low_counters
      some_cpus shown shown_some shown_few

  listing_lines : List Line
  listing_lines = all_lines (cpus number) few_cpus (rounds number) (counter number) few_rounds low_counters
      some_cpus shown shown_some shown_few

  listing_is : text_of_lines listing_lines ≡ listing_of number
  unfolding listing_of listing_lines all_lines shown_short
  listing_is =
      let front = cpus_to (cpus number) few_cpus (cpus number) few_cpus in
      let middle = programs_to (cpus number) few_cpus (rounds number) (counter number) few_rounds
      low_counters (cpus number) few_cpus in
      let tail = show_line_of shown shown_short ∷ end_line_of ∷ [] in
      text_append front (middle ++ tail)
      ∙ ap₂ (λ (s t : List ℕ). s ++ t) (cpus_text (cpus number) few_cpus (cpus number) few_cpus)
      (text_append middle tail
      ∙ ap₂ (λ (s t : List ℕ). s ++ t) (programs_text (cpus number) few_cpus (rounds number) (counter number)
      few_rounds low_counters (cpus number) few_cpus)
      (ap (λ (t : List ℕ). t ++ (line (codes " END") ++ [])) (show_text shown shown_short)
      ∙ ap (λ (t : List ℕ). show_line (stride number) ++ t) (append-nil (line (codes " END")))))

  pub has_image : HasImage (listing_of number)
  unfolding listing_lines
  has_image = subst HasImage listing_is
      (they_stand (cpus number) few_cpus (rounds number) (counter number) few_rounds low_counters some_cpus
      shown shown_some shown_few)

  pub no_fault : (f : ListingFault) → FirstFault (listing_of number) f → ⊥
  no_fault f fault = both_fail (listing_of number) has_image.0 f has_image.1 fault
