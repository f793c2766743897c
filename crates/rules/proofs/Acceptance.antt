-- What acceptance means: an accepted file holds a sound design of its count, with no wide multiplier, and has the length that the count asks for;
-- a refused one names a record number below the limit. Assumes nothing.
use mathlib.Core.Path.{◌≡◌, refl, sym, ap, subst, ◌∙◌}
use mathlib.Core.Logic.{◌⊎◌, inl, inr}
use mathlib.Core.Bool.{Bool, true, cond}
use mathlib.Core.List.{List, [], ◌∷◌}
use Prim.Native.Nat.{ℕ, zero, suc, ◌+◌, ◌≤◌, ◌<◌}
use native.Mathlib.Nat.{eq-or-lt_of_le}
use native.Mathlib.Omega.{arith}
use lib.ListN.{length}
use Rattle.std.specs.Prelude.{Result, Ok, Err}
use Rattle.netlist.specs.Kinds.{is_multiplier, uses_of}
use Rattle.netlist.specs.Limits.{max_count, max_multiplier_width, kind_count}
use Rattle.netlist.specs.Layout.{design_of, record_at, code_at, fields_at, count_of, record_start, record_size}
use Rattle.netlist.specs.Rules.{at_most, AllHold}
use Rattle.netlist.specs.declared.refusal.Refusal.{Refusal}
use Rattle.netlist.specs.declared.refusal.Refused.{Refused}
use Rattle.rules.specs.Fit.{field_rules, word_rules}
use Rattle.rules.specs.Check.{check_of, check_from, refuse_at, first_broken, header_rules, record_rules}
use Rattle.rules.specs.Sound.{SoundRecord, Acceptance}
use Rattle.rules.specs.Lent.{Lent}
use Rattle.rules.proofs.CheckLaws.{Kept, pass_kept, kept_pass}

-- a step that ends in acceptance passed, and so did what follows
past_refusal : (i n : ℕ) (v : Result (Unit {0}) Refusal) (next : Result ℕ Refused) → refuse_at i v next ≡ Ok n → (v ≡ Ok tt) × (next ≡ Ok n)
unfolding refuse_at
past_refusal i n (Ok kept) next e = (refl, e)
past_refusal i n (Err r) next e = cc

-- of the records from i on, the i-th or one of the later ones
this_or_later : (file : List ℕ) (i j : ℕ) → Kept (record_rules file i) → (i < j → Kept (record_rules file j)) → (i ≡ j) ⊎ (i < j) → Kept (record_rules file j)
this_or_later file i j this later (inl e) = subst (λ (k : ℕ). Kept (record_rules file k)) e this
this_or_later file i j this later (inr h) = later h

-- each record of an accepted file keeps its rules
each_kept : (file : List ℕ) (n left i : ℕ) → check_from file left i ≡ Ok n → (j : ℕ) → i ≤ j → j < i + left → Kept (record_rules file j)
unfolding check_from
each_kept file n zero i e j h g = absurd (let z : ◌≡◌ {A = ℕ} 0 1 = omega arith in omega arith)
each_kept file n (suc left) i e j h g =
    let both = past_refusal i n (first_broken (record_rules file i)) (check_from file left (suc i)) e in
    this_or_later file i j (pass_kept (record_rules file i) both.0) (λ p. each_kept file n left (suc i) both.1 j p (omega arith)) (eq-or-lt_of_le h)

-- the end of the records answers the count
accepted_count : (file : List ℕ) (n left i : ℕ) → check_from file left i ≡ Ok n → n ≡ count_of file
unfolding check_from
accepted_count file n zero i e = let p : count_of file ≡ n = cc in sym p
accepted_count file n (suc left) i e =
    accepted_count file n left (suc i) (past_refusal i n (first_broken (record_rules file i)) (check_from file left (suc i)) e).1

-- the rules of the header and of each record, all kept
pub record AllKept (file : List ℕ) : Type 0 where
  pub header : Kept (header_rules file)
  pub each : (i : ℕ) → i < count_of file → Kept (record_rules file i)

-- a file is accepted just where all rules are kept
pub accepted_kept : (file : List ℕ) (n : ℕ) → check_of file ≡ Ok n → AllKept file
unfolding check_of
accepted_kept file n e =
    let both = past_refusal 0 n (first_broken (header_rules file)) (check_from file (count_of file) 0) e in
    record {
      header = pass_kept (header_rules file) both.0;
      each = λ i h. each_kept file n (count_of file) 0 both.1 i (omega arith) (omega arith);
    }

all_accepted : (file : List ℕ) (left i : ℕ) → ((j : ℕ) → i ≤ j → j < i + left → Kept (record_rules file j)) → check_from file left i ≡ Ok (count_of file)
unfolding check_from refuse_at
all_accepted file zero i kept = refl
all_accepted file (suc left) i kept =
    ap (λ (v : Result (Unit {0}) Refusal). refuse_at i v (check_from file left (suc i))) (sym (kept_pass (record_rules file i) (kept i (omega arith) (omega arith))))
    ∙ all_accepted file left (suc i) (λ j h g. kept j (omega arith) (omega arith))

pub kept_accepted : (file : List ℕ) → AllKept file → check_of file ≡ Ok (count_of file)
unfolding check_of refuse_at
kept_accepted file k =
    ap (λ (v : Result (Unit {0}) Refusal). refuse_at 0 v (check_from file (count_of file) 0)) (sym (kept_pass (header_rules file) k.header))
    ∙ all_accepted file (count_of file) 0 (λ j h g. k.each j (omega arith))

-- what the rules of record i say: it has the number of a kind, it is sound, and its fields are those that its kind uses
pub record RuleFacts (file : List ℕ) (i : ℕ) : Type 0 where
  pub code : code_at file i < kind_count
  pub sound : SoundRecord (design_of file) i
  pub fields : AllHold (field_rules (fields_at file i) (uses_of ((design_of file).at i).kind))

-- here alone the rules of a record are taken by their places in the list
module _ (file : List ℕ) (i : ℕ) where
  pub rule_facts : Kept (record_rules file i) → RuleFacts file i
  unfolding record_rules word_rules
  rule_facts k =
      record {
        code = k.0.0;
        sound = record {
          positive = k.1.0.0;
          narrow = k.1.0.1.0;
          operands = k.1.1.0;
          widths = k.1.1.1.0;
          multiplier = k.1.1.1.1.0;
          keep = k.1.1.1.1.1.1.0.0;
          word = k.1.1.1.1.1.1.0.1.0;
        };
        fields = k.1.1.1.1.1.0;
      }

  pub facts_rules : RuleFacts file i → Kept (record_rules file i)
  unfolding record_rules word_rules
  facts_rules f =
      let r = f.sound in
      ((f.code, tt), ((r.positive, (r.narrow, tt)), (r.operands, (r.widths, (r.multiplier, (f.fields, ((r.keep, (r.word, tt)), tt)))))))

pub accepted : (file : List ℕ) (n : ℕ) → check_of file ≡ Ok n → Acceptance file n
unfolding check_of header_rules design_of
accepted file n e =
    let kept = accepted_kept file n e in
    let header = kept.header in
    let same = accepted_count file n (count_of file) 0 (past_refusal 0 n (first_broken (header_rules file)) (check_from file (count_of file) 0) e).1 in
    record {
      count = same;
      size = header.1.1.1.1.0.0 ∙ ap record_start (sym same);
      sound = record { few = header.1.1.1.0.0; each = λ i h. (rule_facts file i (kept.each i h)).sound };
      codes = λ i h. (rule_facts file i (kept.each i (subst (λ (m : ℕ). i < m) same h))).code;
      fields = λ i h. (rule_facts file i (kept.each i (subst (λ (m : ℕ). i < m) same h))).fields;
    }

-- "Files so refused are no longer accepted designs": no multiplier of an accepted file is wider than 32 bits
pub multiplier_narrow : (file : List ℕ) (n : ℕ) → check_of file ≡ Ok n → (i : ℕ) → i < n → is_multiplier (record_at file i).kind ≡ true
    → (record_at file i).width ≤ max_multiplier_width
unfolding design_of
multiplier_narrow file n e i h p =
    let a = accepted file n e in
    (subst (λ (t : Bool). AllHold (cond t (at_most (record_at file i).width max_multiplier_width ∷ []) [])) p
    (a.sound.each i (subst (λ (m : ℕ). i < m) a.count h)).multiplier).0

-- an accepted file may be spoken of with its own count
pub with_count : {file : List ℕ} {n : ℕ} → Acceptance file n → Acceptance file (count_of file)
with_count {file} a = subst (Acceptance file) a.count a

-- and with a list of as many words
pub lent : {file list : List ℕ} {n : ℕ} → Acceptance file n → length list ≡ n → Lent file list
lent a e = record { accepted = with_count a; size = e ∙ a.count }

-- an accepted file has no more records than the limit
pub few : (file : List ℕ) (n : ℕ) → Acceptance file n → n ≤ max_count
unfolding design_of
few file n a = let f = a.sound.few in let e = a.count in omega arith

-- an accepted file holds all its records
pub holds_record : (file : List ℕ) → Acceptance file (count_of file) → (i : ℕ) → i < count_of file → record_start i + record_size ≤ length file
holds_record file a i h = let s = a.size in omega arith

-- the record that a refusal names, and 0 for an accepted file
abbrev at_of : Result ℕ Refused → ℕ
at_of (Ok n) = 0
at_of (Err r) = r.at

-- a refusal names a record below the limit of records
refused_record : (file : List ℕ) (r : Refused) (left i : ℕ) → check_from file left i ≡ Err r → r.at < i + left
unfolding check_from refuse_at
refused_record file r zero i e = cc
refused_record file r (suc left) i e = go (first_broken (record_rules file i)) e (refused_record file r left (suc i))
  where
    go : (v : Result (Unit {0}) Refusal) → refuse_at i v (check_from file left (suc i)) ≡ Err r → (check_from file left (suc i) ≡ Err r → r.at < suc i + left) → r.at < i + suc left
    go (Ok kept) e later = let h = later e in omega arith
    go (Err s) e later = let p : i ≡ r.at = ap at_of e in omega arith

pub refused_low : (file : List ℕ) (r : Refused) → check_of file ≡ Err r → r.at < max_count
unfolding check_of refuse_at header_rules
refused_low file r e = go (first_broken (header_rules file)) refl e
  where
    go : (v : Result (Unit {0}) Refusal) → first_broken (header_rules file) ≡ v → refuse_at 0 v (check_from file (count_of file) 0) ≡ Err r → r.at < max_count
    go (Ok kept) q e =
        let h = refused_record file r (count_of file) 0 e in
        let few = (pass_kept (header_rules file) q).1.1.1.0.0 in
        omega arith
    go (Err s) q e = let p : 0 ≡ r.at = ap at_of e in omega arith
