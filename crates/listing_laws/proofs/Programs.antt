-- The first reading of a generated program.
use Rattle.std.proofs.Common.{◌≡◌, ◌≢◌, ℕ, ◌+◌, ◌*◌, ◌<◌, ◌≤◌, ◌^◌, false}
use Rattle.std.proofs.Common.{List, [], ◌∷◌}
use Rattle.std.proofs.Common.{Some, None, is_some, refl, ap, ◌∙◌, arith, subst}
use Rattle.std.proofs.Common.{lit<}
use Rattle.std.specs.Prelude.{ℤ, pos, Ok, if◌then◌else◌}
use Rattle.std.specs.Fmt.{decimal}
use Rattle.std.proofs.lemmas.Fmt.{decimal_injective}
use Rattle.z_text.proofs.Keys.{bytes_of_itself, bytes_differ}
use Rattle.z_operands.specs.Values.{Table, operands_on}
use Rattle.z_fields.specs.declared.fault.Kind.{Kind}
use Rattle.z_fields.specs.declared.fault.Kind.TheVariants.{WrongOperands}
use Rattle.z_reading.specs.Listing.{Plan, table_with, is_defined}
use Rattle.listing_laws.proofs.Words.{tokens_for}
use Rattle.listing_laws.proofs.Lines.{line_with, IsSaid, words_at, words_lie}
use Rattle.listing_laws.proofs.Numbers.{number}
use Rattle.listing_laws.proofs.Terms.{label_name, name_word, capital_by, number_value, label_value}
use Rattle.listing_laws.proofs.Terms.{no_operand, one_operand, two_operands}
use Rattle.listing_laws.proofs.Codes.{HasCode, plain, lghi_is, tbeginc_is, lg_is, aghi_is, stg_is, tend_is}
use Rattle.listing_laws.proofs.Codes.{brctg_is, svc_is, sizes_are, lghi_code, tbeginc_code, lg_code}
use Rattle.listing_laws.proofs.Codes.{aghi_code, stg_code, tend_code, brctg_code, svc_code}
use Rattle.listing_laws.proofs.Codes.{lghi, tbeginc, lg, aghi, stg, tend, brctg, svc}
use Rattle.listing_laws.proofs.Again.{instruction_goes}
use Rattle.listing_laws.proofs.Texts.{written, Runs}
use Rattle.listing_laws.proofs.Generated.{one_number, two_numbers, lghi_line, tbeginc_line, lg_line}
use Rattle.listing_laws.proofs.Generated.{aghi_line, stg_line, tend_line, brctg_line, svc_line, program_lines}
use Rattle.listing_laws.proofs.Generated.{start, loop, HasNone, Stage, step}
use Rattle.listing_laws.proofs.Spelled.{near_fits}

-- ---- names that are one or not

pub other_letter : (b c m n : ℕ) → b ≢ c → label_name b m ≢ label_name c n
other_letter b c m n h e = let same : b ≡ c = cc in h same

pub other_number : (b m n : ℕ) → m < 10 → n < 10 → m ≢ n → label_name b m ≢ label_name b n
other_number b m n few also h e =
    let same : decimal m ≡ decimal n = cc in h (decimal_injective m n (omega arith) (omega arith) same)

pub hit : (b n : ℕ) (x : ℤ) (labels : Table) → table_with (label_name b n) x labels (label_name b n) ≡ Some x
hit b n x labels = ap (λ c. if c then Some x else labels (label_name b n)) (bytes_of_itself (label_name b n))

pub missed : (name : List ℕ) (b n : ℕ) (x : ℤ) (labels : Table) → name ≢ label_name b n
    → table_with (label_name b n) x labels name ≡ labels name
missed name b n x labels h = ap (λ c. if c then Some x else labels name) (bytes_differ name (label_name b n) h)

-- ---- operands

pub two_values : (label op : List ℕ) (a b : ℕ) (said : IsSaid label op (two_numbers a b)) (labels : Table)
    (here : ℕ) (kind : Kind)
    → a < 10 ^ 10 → b < 10 ^ 10
    → operands_on kind (line_with label op (two_numbers a b)) labels here (tokens_for (words_at label op
    (two_numbers a b)) (two_numbers a b))
    ≡ Ok (plain (pos a) ∷ plain (pos b) ∷ [])
two_values label op a b said labels here kind h k =
    two_operands (line_with label op (two_numbers a b)) labels here kind (number a) (number b) (pos a) (pos
    b) (words_at label op (two_numbers a b))
    (number_value _ labels here a (near_fits a h)) (number_value _ labels here b (near_fits b k)) (words_lie label op
    (two_numbers a b) said)

one_value : (label op : List ℕ) (a : ℕ) (said : IsSaid label op (one_number a)) (labels : Table) (here : ℕ)
    (kind : Kind) → a < 10 ^ 10
    → operands_on kind (line_with label op (one_number a)) labels here (tokens_for (words_at label op
    (one_number a)) (one_number a)) ≡ Ok (plain (pos a) ∷ [])
one_value label op a said labels here kind h =
    one_operand (line_with label op (one_number a)) labels here kind (number a) (pos a) (words_at label op
    (one_number a))
    (number_value _ labels here a (near_fits a h)) (words_lie label op (one_number a) said)

-- ---- the eight lines

fresh_label : (b n : ℕ) (labels : Table) → labels (label_name b n) ≡ None
    → is_defined (label_name b n) labels ≡ false
fresh_label b n labels e = ap is_some e

module _ (c : ℕ) (most : c ≤ 8) (i n a : ℕ) (few : i < 10) (n_few : n < 32768) (a_few : a < 524288) where
  abbrev pub labels_after : Table → Table
  labels_after labels = table_with (label_name 76 i) (pos (loop i)) (table_with (label_name 80 i) (pos (start
      i)) labels)

  pub program_runs : (line cpus : ℕ) (labels : Table) (p : Plan) → i < c → HasNone labels i → Stage c most
      (start i) cpus labels p
      → (q : Plan) × Runs line (program_lines i n a few n_few a_few) p q × Stage c most (start i + 36) cpus
      (labels_after labels) q
  program_runs line cpus labels p among none s =
      let h0 = start i in
      let l0 = labels in
      let n0 = line in
      let in_lghi = lghi_line i n a few n_few a_few in
      let a1 = step c most in_lghi lghi 4 n0 h0 (8192 + 18 * i) cpus l0 p lghi_is sizes_are.0 (lit< tt) (omega
      arith) (omega arith) (omega arith)
      (fresh_label 80 i labels none.entry) s
      (λ k all. instruction_goes in_lghi.label in_lghi.op in_lghi.ws in_lghi.said k n0 h0 lghi (plain (pos
      2) ∷ plain (pos n) ∷ [])
      (two_values in_lghi.label in_lghi.op 2 n in_lghi.said k.labels h0 WrongOperands (lit< tt) (omega
      arith)) (lghi_code h0 n n_few)) in
      let h1 = h0 + 4 in
      let l1 = table_with in_lghi.label (pos h0) l0 in
      let n1 = n0 + 1 in
      let in_tbeginc = tbeginc_line i n a few n_few a_few in
      let a2 = step c most in_tbeginc tbeginc 6 n1 h1 (8194 + 18 * i) cpus l1 a1.0 tbeginc_is sizes_are.1 (lit<
      tt) (omega arith) (omega arith) (omega arith)
      (fresh_label 76 i l1 (missed (label_name 76 i) 80 i (pos h0) labels (other_letter 76 80 i i (λ e.
      omega (arith, e))) ∙ none.loops)) a1.2
      (λ k all. instruction_goes in_tbeginc.label in_tbeginc.op in_tbeginc.ws in_tbeginc.said k n1 h1 tbeginc
      (plain (pos 0) ∷ plain (pos 65280) ∷ [])
      (two_values in_tbeginc.label in_tbeginc.op 0 65280 in_tbeginc.said k.labels h1 WrongOperands (lit<
      tt) (lit< tt)) (tbeginc_code h1)) in
      let h2 = h1 + 6 in
      let l2 = table_with in_tbeginc.label (pos h1) l1 in
      let n2 = n1 + 1 in
      let in_lg = lg_line i n a few n_few a_few in
      let a3 = step c most in_lg lg 6 n2 h2 (8197 + 18 * i) cpus l2 a2.0 lg_is sizes_are.2 (lit< tt) (omega
      arith) (omega arith) (omega arith)
      refl a2.2
      (λ k all. instruction_goes in_lg.label in_lg.op in_lg.ws in_lg.said k n2 h2 lg (plain (pos 1) ∷
      plain (pos a) ∷ [])
      (two_values in_lg.label in_lg.op 1 a in_lg.said k.labels h2 WrongOperands (lit< tt) (omega arith))
      (lg_code h2 a a_few)) in
      let h3 = h2 + 6 in
      let l3 = table_with in_lg.label (pos h2) l2 in
      let n3 = n2 + 1 in
      let in_aghi = aghi_line i n a few n_few a_few in
      let a4 = step c most in_aghi aghi 4 n3 h3 (8200 + 18 * i) cpus l3 a3.0 aghi_is sizes_are.3 (lit< tt)
      (omega arith) (omega arith) (omega arith)
      refl a3.2
      (λ k all. instruction_goes in_aghi.label in_aghi.op in_aghi.ws in_aghi.said k n3 h3 aghi (plain (pos
      1) ∷ plain (pos 1) ∷ [])
      (two_values in_aghi.label in_aghi.op 1 1 in_aghi.said k.labels h3 WrongOperands (lit< tt) (lit<
      tt)) (aghi_code h3)) in
      let h4 = h3 + 4 in
      let l4 = table_with in_aghi.label (pos h3) l3 in
      let n4 = n3 + 1 in
      let in_stg = stg_line i n a few n_few a_few in
      let a5 = step c most in_stg stg 6 n4 h4 (8202 + 18 * i) cpus l4 a4.0 stg_is sizes_are.4 (lit< tt) (omega
      arith) (omega arith) (omega arith)
      refl a4.2
      (λ k all. instruction_goes in_stg.label in_stg.op in_stg.ws in_stg.said k n4 h4 stg (plain (pos 1) ∷
      plain (pos a) ∷ [])
      (two_values in_stg.label in_stg.op 1 a in_stg.said k.labels h4 WrongOperands (lit< tt) (omega
      arith)) (stg_code h4 a a_few)) in
      let h5 = h4 + 6 in
      let l5 = table_with in_stg.label (pos h4) l4 in
      let n5 = n4 + 1 in
      let in_tend = tend_line i n a few n_few a_few in
      let a6 = step c most in_tend tend 4 n5 h5 (8205 + 18 * i) cpus l5 a5.0 tend_is sizes_are.5 (lit< tt)
      (omega arith) (omega arith) (omega arith)
      refl a5.2
      (λ k all. instruction_goes in_tend.label in_tend.op in_tend.ws in_tend.said k n5 h5 tend []
      (no_operand (written in_tend) k.labels h5 WrongOperands (words_at in_tend.label in_tend.op
      in_tend.ws)) (tend_code h5)) in
      let h6 = h5 + 4 in
      let l6 = table_with in_tend.label (pos h5) l5 in
      let n6 = n5 + 1 in
      let in_brctg = brctg_line i n a few n_few a_few in
      let there : loop i + 26 ≡ h6 = omega arith in
      let a7 = step c most in_brctg brctg 4 n6 h6 (8207 + 18 * i) cpus l6 a6.0 brctg_is sizes_are.6 (lit< tt)
      (omega arith) (omega arith) (omega arith)
      refl a6.2
      (λ k all. instruction_goes in_brctg.label in_brctg.op in_brctg.ws in_brctg.said k n6 h6 brctg (plain
      (pos 2) ∷ plain (pos (loop i)) ∷ [])
      (two_operands (written in_brctg) k.labels h6 WrongOperands (number 2) (name_word 76 i) (pos 2) (pos
      (loop i)) (words_at in_brctg.label in_brctg.op in_brctg.ws) (number_value (written in_brctg)
      k.labels h6 2 (lit< tt)) (label_value (written in_brctg) k.labels h6 76 i (pos (loop i))
      (capital_by 76 i few refl) (all i among).loops) (words_lie in_brctg.label in_brctg.op
      in_brctg.ws in_brctg.said)) (subst (λ x. HasCode brctg x (plain (pos 2) ∷ plain (pos
      (loop i)) ∷ [])) there (brctg_code (loop i) (omega arith)))) in
      let h7 = h6 + 4 in
      let l7 = table_with in_brctg.label (pos h6) l6 in
      let n7 = n6 + 1 in
      let in_svc = svc_line i n a few n_few a_few in
      let a8 = step c most in_svc svc 2 n7 h7 (8209 + 18 * i) cpus l7 a7.0 svc_is sizes_are.7 (lit< tt) (omega
      arith) (omega arith) (omega arith)
      refl a7.2
      (λ k all. instruction_goes in_svc.label in_svc.op in_svc.ws in_svc.said k n7 h7 svc (plain (pos 0) ∷
      [])
      (one_value in_svc.label in_svc.op 0 in_svc.said k.labels h7 WrongOperands (lit< tt)) (svc_code h7))
      in
      let h8 = h7 + 2 in
      let l8 = table_with in_svc.label (pos h7) l7 in
      let n8 = n7 + 1 in
      let whole : h8 ≡ start i + 36 = omega arith in (
        a8.0,
        (
          a1.0,
          a1.1,
          (
            a2.0,
            a2.1,
            (
              a3.0,
              a3.1,
              (
                a4.0,
                a4.1,
                (
                  a5.0,
                  a5.1,
                  (
                    a6.0,
                    a6.1,
                    (
                      a7.0,
                      a7.1,
                      (a8.0, a8.1, refl {a = a8.0}),
                    ),
                  ),
                ),
              ),
            ),
          ),
        ),
        subst (λ x. Stage c most x cpus l8 a8.0) whole a8.2,
      )
