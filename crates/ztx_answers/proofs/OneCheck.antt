-- One verdict on a report behind a listing, and so one answer to an input.
use Rattle.std.proofs.Common.{◌≡◌, ◌≢◌, ℕ, List, Result, Ok, Err, sym, subst, ◌∙◌, inl, inr, arith}
use Rattle.input_parts.specs.Parts.{Pieces}
use Rattle.input_parts.proofs.One.{one_way}
use Rattle.run_answers.specs.Answers.{IsDue}
use Rattle.run_answers.specs.CheckFault.{CheckFault}
use Rattle.run_answers.specs.CheckFault.TheVariants.{Memory, Form, Entry, State}
use Rattle.tx_journal.specs.Content.{Content}
use Rattle.z_assemble.proofs.Says.{both_fail, same_image}
use Rattle.run_answers.specs.Checks.{report_mark, Says, IsVerdict, IsDueToReport, IsDueToCheck}
use Rattle.ztx_answers.specs.One.{IsOnly}
use Rattle.ztx_answers.proofs.Answered.{same_refusal}

-- at most one answer is due of a report beside want of memory
abbrev pub HasOneAnswer : Type 0
HasOneAnswer = (image : Content) (report : List ℕ) (some other : Result ℕ CheckFault) → some ≢ Err Memory
    → other ≢ Err Memory → IsDue image report some → IsDue image report other → some ≡ other

-- want of memory says nothing
says_something : (answer : Result ℕ CheckFault) (status : ℕ) (out : List ℕ) → Says answer status out
    → answer ≢ Err Memory
says_something (Ok entries) status out says is = cc
says_something (Err Memory) status out says is = says
says_something (Err (Form line)) status out says is = cc
says_something (Err (Entry entry)) status out says is = cc
says_something (Err (State line)) status out says is = cc

one_said : (answer : Result ℕ CheckFault) → IsOnly (Says answer)
one_said (Ok entries) s t xs ys a b = record { statuses = a.0 ∙ sym b.0; texts = a.1 ∙ sym b.1 }
one_said (Err Memory) s t xs ys a b = absurd a
one_said (Err (Form line)) s t xs ys a b = record { statuses = a.0 ∙ sym b.0; texts = a.1 ∙ sym b.1 }
one_said (Err (Entry entry)) s t xs ys a b = record { statuses = a.0 ∙ sym b.0; texts = a.1 ∙ sym b.1 }
one_said (Err (State line)) s t xs ys a b = record { statuses = a.0 ∙ sym b.0; texts = a.1 ∙ sym b.1 }

module _ (one_answer : HasOneAnswer) (listing report : List ℕ) where
  same_verdict : IsOnly (IsVerdict listing report)
  same_verdict s t xs ys a b =
      let images = same_image listing b.image a.image b.stands a.stands in
      let is_due = subst (λ (i : Content). IsDue i report b.answer) images b.is_due in
      let answers =
      one_answer a.image report b.answer a.answer (says_something b.answer t ys b.says)
      (says_something a.answer s xs a.says) is_due a.is_due in
      one_said a.answer s t xs ys a.says (subst (λ (r : Result ℕ CheckFault). Says r t ys) answers b.says)

  one_of_report : IsOnly (IsDueToReport listing report)
  one_of_report s t xs ys (inl r) (inl q) = same_refusal listing s t xs ys r q
  one_of_report s t xs ys (inl r) (inr b) = absurd (both_fail listing b.image r.fault b.stands r.first)
  one_of_report s t xs ys (inr a) (inl q) = absurd (both_fail listing a.image q.fault a.stands q.first)
  one_of_report s t xs ys (inr a) (inr b) = same_verdict s t xs ys a b

pub one_check : HasOneAnswer → (input : List ℕ) → IsOnly (IsDueToCheck input)
one_check one_answer input s t xs ys (inl a) (inl b) = record {
  statuses = a.status_is ∙ sym b.status_is;
  texts = a.out_is ∙ sym b.out_is;
}
one_check one_answer input s t xs ys (inl a) (inr b) = absurd (omega (arith, a.long, b.short))
one_check one_answer input s t xs ys (inr a) (inl b) = absurd (omega (arith, b.long, a.short))
one_check one_answer input s t xs ys (inr a) (inr b) =
    let same = one_way report_mark input b.pieces a.pieces b.parted a.parted in
    let due = subst (λ (p : Pieces). IsDueToReport p.listing p.marked t ys) same b.is_due in
    one_of_report one_answer a.pieces.listing a.pieces.marked s t xs ys a.is_due due
