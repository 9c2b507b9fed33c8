-- A name ends at the first `=`.
use Rattle.std.proofs.Common.{◌≡◌, inr, ℕ, ◌<◌, List, ◌++◌, take, drop, length, sym, ap, ◌∙◌, subst, arith}
use Rattle.std.proofs.lemmas.List.{take-append-drop}
use Rattle.std.proofs.Math.Seq.{take-append_seam, drop-append_seam}
use Rattle.os_str_ext.specs.Pieces.{SplitsAt}
use Rattle.wtf8_core.specs.Occurrence.{OccursNowhere, IsFirstIndex}
use Rattle.os_args.specs.Word.{equals, IsName}

prefix_of : (s before after : List ℕ) (i : ℕ) → s ≡ before ++ after → length before ≡ i → take i s ≡ before
prefix_of s before after i e l = ap (λ n. take n s) (sym l) ∙ ap (take (length before)) e ∙ take-append_seam before after

suffix_of : (s before after : List ℕ) (i : ℕ) → s ≡ before ++ after → length before ≡ i → drop i s ≡ after
suffix_of s before after i e l = ap (λ n. drop n s) (sym l) ∙ ap (drop (length before)) e ∙ drop-append_seam before after

pub name_ends : (s : List ℕ) (i : ℕ) (name rest : List ℕ) → ((p t prefix suffix : List ℕ) → 0 < length p → SplitsAt IsFirstIndex p t prefix suffix → OccursNowhere p prefix) → IsFirstIndex equals s i → name ≡ take i s → rest ≡ drop i s → IsName s name rest
name_ends s i name rest before_first h n r =
    let st = h.occurs in
    let prefix = n ∙ prefix_of s st.before (equals ++ st.after) i st.joined st.index in
    let suffix = r ∙ suffix_of s st.before (equals ++ st.after) i st.joined st.index in
    let cut : SplitsAt IsFirstIndex equals s name st.after = record {
      joined = st.joined ∙ ap (λ x. x ++ (equals ++ st.after)) (sym prefix);
      found = subst (λ k. IsFirstIndex equals s k) (sym (ap length prefix ∙ st.index)) h;
    } in
    record {
      joined = sym (take-append-drop i s) ∙ ap (λ x. x ++ drop i s) (sym n) ∙ ap (λ x. name ++ x) (sym r);
      no_equals = before_first equals s name st.after (omega arith) cut;
      end = inr (record { rest = st.after; joined = suffix });
    }
