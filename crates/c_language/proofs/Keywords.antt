-- Words that are no keywords: they are none of the words of types, and NULL and EOF are among them.
use Rattle.std.proofs.Common.{◌≡◌, true, false, refl, ap, ◌∙◌, codes}
use Rattle.std.specs.Prelude.{bytes_eq}
use Rattle.std.proofs.lemmas.Bool.{false_from_ne_true, both_ways}
use Rattle.c_language.specs.Words.{Bytes}
use Rattle.c_language.specs.Sees.{is_keyword}
use Rattle.c_language.specs.IntWords.{is_int_word}
use Rattle.c_language.proofs.Lists.{same_bytes}

-- a word that is no keyword is none of them
pub no_keyword : (w text : Bytes) → is_keyword w ≡ false → is_keyword text ≡ true → bytes_eq w text ≡ false
no_keyword w text h k = false_from_ne_true (bytes_eq w text) (λ t. both_ways (is_keyword w) h (ap is_keyword (same_bytes w text t) ∙ k))

pub no_int_word : (w : Bytes) → is_keyword w ≡ false → is_int_word w ≡ false
unfolding is_keyword
no_int_word w h = rw (no_keyword w (codes "char") h refl, no_keyword w (codes "short") h refl, no_keyword w (codes "int") h refl, no_keyword w (codes "long") h refl, no_keyword w (codes "signed") h refl, no_keyword w (codes "unsigned") h refl) refl

pub null_free : is_keyword (codes "NULL") ≡ false
unfolding is_keyword
null_free = refl

pub eof_free : is_keyword (codes "EOF") ≡ false
unfolding is_keyword
eof_free = refl
