-- An image starts with the text pages of its guard, and nothing is still to be stored there.
use Rattle.std.proofs.Common.{◌≡◌, ℕ, zero, suc, ◌+◌, ◌/◌, ◌<◌, true, List, [], ◌∷◌, Option, Some, None, ◌++◌}
use Rattle.std.proofs.Common.{refl, sym, subst, ◌∙◌, arith}
use Rattle.std.specs.Prelude.{nat_eq}
use Rattle.std.specs.List.{list_any, All}
use Rattle.std.specs.Ordering.{nat_cmp}
use Rattle.std.specs.FinSet.{FinSet, contains, items}
use Rattle.std.proofs.lemmas.List.Elements.{All-head, All-tail}
use Rattle.z_regs.specs.Cpu.{Cpu}
use Rattle.z_regs.specs.Prefix.{is_prefix, area_size}
use Rattle.z_regs.specs.declared.waiting.Waiting.{Waiting}
use Rattle.z_regs.proofs.Exchange.{area}
use Rattle.z_instr.specs.Access.{lies_in}
use Rattle.z_touch.proofs.SmallRanges.{any-items}
use Rattle.tx_journal.specs.Content.{Content}
use Rattle.tx_journal.specs.declared.entries.Entry.{Entry}
use Rattle.tx_journal.specs.Image.{IsImage, IsStarting, HasFreeArea, IsInArea, page_size}
use Rattle.tx_serial.specs.Flat.{FlatState, Pending}
use Rattle.tx_serial.specs.Apply.{apply}
use Rattle.tx_serial.specs.History.{start_of, cpu_at, replay, replay_from}
use Rattle.tx_serial.specs.Text as text
use Rattle.tx_serial.specs.Text.{SameText, IsKept, IsPlaced, IsAwaited}
use Rattle.tx_serial.proofs.Entries.{entry_changes}
use Rattle.tx_serial.proofs.TextKept.{entry_keeps, entry_keeps_text}
use Rattle.tx_constraint.specs.Constraints.{Step}
use Rattle.tx_serial.specs.Attempt.{last_step}

-- ---- the pages

pub start_pages : (image : Content) (page : ℕ) → list_any (nat_eq page) (start_of image).text
    ≡ contains image.guard page
unfolding start_of
start_pages image page = any-items image.guard page

-- ---- the CPUs

all_prefixes : (cpus : List Cpu) → All IsStarting cpus → (i : ℕ) → is_prefix (cpu_at cpus i).prefix ≡ true
all_prefixes [] h i = refl
all_prefixes (c ∷ cs) h zero = let first = All-head IsStarting c cs h in first.prefix
all_prefixes (c ∷ cs) h (suc i) = all_prefixes cs (All-tail IsStarting c cs h) i

-- a page with a byte of the area lies in it
in_area : (prefix : Option ℕ) (first a : ℕ) → is_prefix prefix ≡ true → prefix ≡ Some first → a < area_size
    → IsInArea prefix ((first + a) / page_size)
in_area prefix first a ok e h =
    let aligned = (area first (subst (λ p. is_prefix p ≡ true) e ok)).aligned in
    record {
      first = first;
      begins = e;
      low = omega arith;
      high = omega arith;
    }

all_areas : (guard : FinSet nat_cmp) (cpus : List Cpu) → All IsStarting cpus → All (HasFreeArea guard) cpus
    → (i : ℕ) → text.HasFreeArea (items guard) (cpu_at cpus i).prefix
all_areas guard [] h free i first a e below = absurd (cc)
all_areas guard (c ∷ cs) h free zero first a e below =
    any-items guard ((first + a) / page_size)
    ∙ All-head (HasFreeArea guard) c cs free ((first + a) / page_size)
    (in_area c.prefix first a (all_prefixes (c ∷ cs) h zero) e below)
all_areas guard (c ∷ cs) h free (suc i) first a e below =
    all_areas guard cs (All-tail IsStarting c cs h) (All-tail (HasFreeArea guard) c cs free) i first a e below

no_block : (prefix : Option ℕ) (pages : List ℕ) (b : Pending) → None ≡ Some b → IsPlaced prefix pages b
no_block prefix pages b h = absurd (cc)

no_interruption : (prefix : Option ℕ) (w : Waiting) → None ≡ Some w → IsAwaited prefix w
no_interruption prefix w h = absurd (cc)

pub start_kept : (image : Content) → IsImage image → IsKept (start_of image)
unfolding start_of
start_kept image is = record {
  prefixes = all_prefixes image.cpus is.starting;
  areas = all_areas image.guard image.cpus is.starting is.free;
  blocks = λ i b h. no_block (cpu_at image.cpus i).prefix (items image.guard) b h;
  interruptions = λ i w h. no_interruption (cpu_at image.cpus i).prefix w h;
}

-- ---- histories

-- what entries leave of a state that is kept
record Stays (f after : FlatState) : Type 0 where
  kept : IsKept after
  pages : after.text ≡ f.text
  bytes : SameText f.text f.storage after.storage

abbrev StaysIn : FlatState → Option FlatState → Type 0
StaysIn f None = Unit {0}
StaysIn f (Some after) = Stays f after

next_stays : (f before : FlatState) (e : Entry) (o : Option FlatState) → apply before e ≡ o → Stays f before
    → StaysIn f o
next_stays f before e None h stays = tt
next_stays f before e (Some after) h stays =
    let only = entry_changes before after e h in
    record {
      kept = entry_keeps before after e stays.kept h;
      pages = only.text ∙ stays.pages;
      bytes = λ a is.
          entry_keeps_text before after e stays.kept h a (subst (λ pages. lies_in pages a ≡ true) (sym
          stays.pages) is)
          ∙ stays.bytes a is;
    }

all_stay : (f : FlatState) (entries : List Entry) (o : Option FlatState) → StaysIn f o
    → StaysIn f (replay_from entries o)
unfolding replay_from
all_stay f [] o h = h
all_stay f (e ∷ rest) None h = all_stay f rest None tt
all_stay f (e ∷ rest) (Some before) h =
    all_stay f rest (apply before e) (next_stays f before e (apply before e) refl h)

stays_at_start : (f : FlatState) → IsKept f → Stays f f
stays_at_start f kept = record { kept = kept; pages = refl; bytes = λ a is. refl }

replayed : (image : Content) (history : List Entry) (after : FlatState) → IsImage image
    → replay image history ≡ Some after → Stays (start_of image) after
replayed image history after is h =
    subst (StaysIn (start_of image)) h
    (all_stay (start_of image) history (Some (start_of image)) (stays_at_start (start_of image) (start_kept
    image is)))

pub replay_kept : (image : Content) (history : List Entry) (after : FlatState) → IsImage image
    → replay image history ≡ Some after → IsKept after
replay_kept image history after is h = (replayed image history after is h).kept

pub replay_keeps_text : (image : Content) (history : List Entry) (after : FlatState) → IsImage image
    → replay image history ≡ Some after → SameText (start_of image).text (start_of image).storage
    after.storage
replay_keeps_text image history after is h = (replayed image history after is h).bytes

pub replay_keeps_pages : (image : Content) (history : List Entry) (after : FlatState) → IsImage image
    → replay image history ≡ Some after → after.text ≡ (start_of image).text
replay_keeps_pages image history after is h = (replayed image history after is h).pages

pub last_is : (steps : List Step) (s : Step) → last_step (steps ++ s ∷ []) ≡ Some s
last_is [] s = refl
last_is (x ∷ []) s = refl
last_is (x ∷ y ∷ rest) s = last_is (y ∷ rest) s
