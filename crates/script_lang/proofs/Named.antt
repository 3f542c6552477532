-- Keys by name.
use Rattle.std.proofs.Common.{◌≡◌, ℕ, ◌≤◌, cond, List, [], length, sym, ap, ◌∙◌, ◌==◌}
use Rattle.std.specs.List.{position_or_len, before_first, after_first}
use Rattle.digest_ripemd.specs.Digests.{digest_of}
use Rattle.script_lang.specs.Reading.{CutAt}
use Rattle.script_lang.specs.Values.{named_digest, is_slash}
use Rattle.script_lang.proofs.Parts.{any_within, none_within}

pub with_set : (text set_name key digest : List ℕ) → CutAt 47 text set_name key → digest ≡ digest_of set_name key → digest ≡ named_digest text
with_set text set_name key digest c e =
    e ∙ (λ i. digest_of (c.front i) (c.back i))
    ∙ ap (λ t. cond t (digest_of (before_first is_slash text) (after_first is_slash text)) (digest_of [] text)) (sym (any_within 47 text c.within))

pub without_set : (text digest : List ℕ) → length text ≤ position_or_len (λ b. b == 47) text → digest ≡ digest_of [] text → digest ≡ named_digest text
without_set text digest none e =
    e ∙ ap (λ t. cond t (digest_of (before_first is_slash text) (after_first is_slash text)) (digest_of [] text)) (sym (none_within 47 text none))
