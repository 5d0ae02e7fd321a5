-- One answer is due to an input with commands.
use Rattle.std.proofs.Common.{ℕ, ◌<◌, ◌≤◌, ◌^◌, ◌⊎◌, List, length, Option, refl, sym, ap, ap₂, subst, ◌∙◌}
use Rattle.std.proofs.Common.{inl, inr, arith}
use Rattle.std.proofs.lemmas.Bool.{cases_lt}
use Rattle.input_parts.specs.Parts.{Pieces}
use Rattle.input_parts.proofs.One.{one_way, some_way}
use Rattle.step_text.specs.Replies.{replies_from}
use Rattle.step_words.specs.Commands.{AreCommands, IsFirstBad}
use Rattle.step_words.specs.Readings.{HasCommands, HasBadLine}
use Rattle.step_words.specs.Words as words
use Rattle.step_words.specs.declared.command.StepCommand.{StepCommand}
use Rattle.step_words.proofs.One.{one_holds as one_reading, same_commands, same_number, never_both}
use Rattle.tx_journal.specs.Content.{Content}
use Rattle.tx_meaning.specs.Schedules.{planned}
use Rattle.run_answers.specs.Report.{status_of}
use Rattle.z_assemble.specs.Whole.{Stands, FirstFault}
use Rattle.z_assemble.specs.Words.{fault_line}
use Rattle.z_assemble.specs.declared.fault.ListingFault.{ListingFault}
use Rattle.z_assemble.proofs.Images.{stands_for_image}
use Rattle.z_assemble.proofs.Says.{one_holds, both_fail, same_image}
use Rattle.listing_answers.specs.Due.{long_fault}
use Rattle.run_answers.specs.Runs.{running}
use Rattle.ztx_answers.specs.Steps.{run_of, step_mark, AreReplies, IsBadCommand, IsDueToParts, IsDueToStep}
use Rattle.ztx_answers.specs.One.{IsSome, IsOnly}
use Rattle.ztx_answers.proofs.Answered.{same_refusal, refusal}

-- ---- only one

few : (listing : List ℕ) (image : Content) → Stands listing image → length image.cpus < 2 ^ 64
few listing image stands =
    let is = stands_for_image listing image stands in
    omega (arith, is.few_cpus)

module _ (turns tick : ℕ) (seed : Option ℕ) (listing text : List ℕ) where
  same_bad : IsOnly (IsBadCommand listing text)
  same_bad s t xs ys a b =
      let images = same_image listing b.image a.image b.stands a.stands in
      let first = subst (λ (i : Content). IsFirstBad (length i.cpus) text b.number) images b.first in
      let numbers = same_number (length a.image.cpus) text a.number b.number a.first first in
      record {
        statuses = a.status_is ∙ sym b.status_is;
        texts = a.out_is ∙ ap words.fault_line numbers ∙ sym b.out_is;
      }

  abbrev status_on : Content → ℕ
  status_on image = let m = running image turns tick in status_of m (planned m seed)

  same_replies : IsOnly (AreReplies turns tick seed listing text)
  same_replies s t xs ys a b =
      let images = same_image listing b.image a.image b.stands a.stands in
      let are = subst (λ (i : Content). AreCommands (length i.cpus) text b.commands) images b.are in
      let commands =
      same_commands (length a.image.cpus) (few listing a.image a.stands) text a.commands b.commands a.are are in
      record {
        statuses = a.status_is ∙ ap status_on (sym images) ∙ sym b.status_is;
        texts = a.out_is
            ∙ ap₂ (λ (i : Content) (cs : List StepCommand). replies_from (run_of i turns tick seed) cs)
            (sym images) commands ∙ sym b.out_is;
      }

  bad_or_replies : (s t : ℕ) (xs ys : List ℕ) → IsBadCommand listing text s xs
      → AreReplies turns tick seed listing text t ys → ⊥
  bad_or_replies s t xs ys b a =
      let images = same_image listing b.image a.image b.stands a.stands in
      let first = subst (λ (i : Content). IsFirstBad (length i.cpus) text b.number) images b.first in
      never_both (length a.image.cpus) text a.commands b.number a.are first

  one_of_parts : IsOnly (IsDueToParts turns tick seed listing text)
  one_of_parts s t xs ys (inl r) (inl q) = same_refusal listing s t xs ys r q
  one_of_parts s t xs ys (inl r) (inr (inl b)) = absurd (both_fail listing b.image r.fault b.stands r.first)
  one_of_parts s t xs ys (inl r) (inr (inr a)) = absurd (both_fail listing a.image r.fault a.stands r.first)
  one_of_parts s t xs ys (inr (inl b)) (inl r) = absurd (both_fail listing b.image r.fault b.stands r.first)
  one_of_parts s t xs ys (inr (inr a)) (inl r) = absurd (both_fail listing a.image r.fault a.stands r.first)
  one_of_parts s t xs ys (inr (inl b)) (inr (inl d)) = same_bad s t xs ys b d
  one_of_parts s t xs ys (inr (inl b)) (inr (inr a)) = absurd (bad_or_replies s t xs ys b a)
  one_of_parts s t xs ys (inr (inr a)) (inr (inl b)) = absurd (bad_or_replies t s ys xs b a)
  one_of_parts s t xs ys (inr (inr a)) (inr (inr d)) = same_replies s t xs ys a d

module _ (turns tick : ℕ) (seed : Option ℕ) (input : List ℕ) where
  pub one_step : IsOnly (IsDueToStep turns tick seed input)
  one_step s t xs ys (inl a) (inl b) = record {
    statuses = a.status_is ∙ sym b.status_is;
    texts = a.out_is ∙ sym b.out_is;
  }
  one_step s t xs ys (inl a) (inr b) = absurd (omega (arith, a.long, b.short))
  one_step s t xs ys (inr a) (inl b) = absurd (omega (arith, b.long, a.short))
  one_step s t xs ys (inr a) (inr b) =
      let same = one_way step_mark input b.pieces a.pieces b.parted a.parted in
      let due =
      subst (λ (p : Pieces). IsDueToParts turns tick seed p.listing p.behind t ys) same b.is_due in
      one_of_parts turns tick seed a.pieces.listing a.pieces.behind s t xs ys a.is_due due

-- ---- one there is

record HasPartsDue (turns tick : ℕ) (seed : Option ℕ) (listing text : List ℕ) : Type 0 where
  pub status : ℕ
  pub out : List ℕ
  pub is_due : IsDueToParts turns tick seed listing text status out

module _ (turns tick : ℕ) (seed : Option ℕ) (listing text : List ℕ) where
  read_due : (image : Content) → Stands listing image
      → HasCommands (length image.cpus) text ⊎ HasBadLine (length image.cpus) text
      → HasPartsDue turns tick seed listing text
  read_due image stands (inl h) = record {
    status = let m = running image turns tick in status_of m (planned m seed);
    out = replies_from (run_of image turns tick seed) h.commands;
    is_due = inr (inr (record {
      image = image;
      stands = stands;
      commands = h.commands;
      are = h.are;
      status_is = refl;
      out_is = refl;
    }));
  }
  read_due image stands (inr h) = record {
    status = 5;
    out = words.fault_line h.number;
    is_due = inr (inl (record {
      image = image;
      stands = stands;
      number = h.number;
      first = h.first;
      status_is = refl;
      out_is = refl;
    }));
  }

  parts_due : ((image : Content) × Stands listing image) ⊎ ((f : ListingFault) × FirstFault listing f)
      → HasPartsDue turns tick seed listing text
  parts_due (inl (image, stands)) = read_due image stands (one_reading (length image.cpus) text)
  parts_due (inr (f, first)) =
      record { status = 5; out = fault_line f; is_due = inl (refusal listing f first) }

module _ (turns tick : ℕ) (seed : Option ℕ) (input : List ℕ) where
  step_by : (16777216 < length input) ⊎ (length input ≤ 16777216) → IsSome (IsDueToStep turns tick seed input)
  step_by (inl long) = record {
    status = 5;
    text = fault_line long_fault;
    is_due = inl (record { long = long; status_is = refl; out_is = refl });
  }
  step_by (inr short) =
      let p = some_way step_mark input in
      let d = parts_due turns tick seed p.pieces.listing p.pieces.behind (one_holds p.pieces.listing) in
      record {
        status = d.status;
        text = d.out;
        is_due = inr (record {
          short = short;
          pieces = p.pieces;
          parted = p.parted;
          is_due = d.is_due;
        });
      }

  pub some_step : IsSome (IsDueToStep turns tick seed input)
  some_step = step_by (cases_lt 16777216 (length input))
