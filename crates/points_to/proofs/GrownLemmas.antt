-- Tables that grow, step by step.
use Rattle.std.proofs.Common.{◌<◌, ◌||◌, Bool, true, false, refl, sym, ◌∙◌, subst, arith}
use Rattle.std.proofs.lemmas.Bool.{false≢true}
use Rattle.bit_rows.specs.Tables.{Table, count_all, IsGrown}

pub grown_none : (t : Table) → IsGrown t t false
grown_none t = record { kept = λ r i h. h; more = λ e. absurd (false≢true e); same = λ e. refl }

pub grown_both : (t u v : Table) (b c : Bool) → IsGrown t u b → IsGrown u v c → IsGrown t v (b || c)
grown_both t u v true true g h = record {
  kept = λ r i x. h.kept r i (g.kept r i x);
  more = λ e. let first = g.more refl in let second = h.more refl in omega (arith, first, second);
  same = λ e. absurd (false≢true (sym e));
}
grown_both t u v true false g h = record {
  kept = λ r i x. h.kept r i (g.kept r i x);
  more = λ e. subst (λ w. count_all t < count_all w) (sym (h.same refl)) (g.more refl);
  same = λ e. absurd (false≢true (sym e));
}
grown_both t u v false true g h = record {
  kept = λ r i x. h.kept r i (g.kept r i x);
  more = λ e. subst (λ w. count_all w < count_all v) (g.same refl) (h.more refl);
  same = λ e. absurd (false≢true (sym e));
}
grown_both t u v false false g h = record {
  kept = λ r i x. h.kept r i (g.kept r i x);
  more = λ e. absurd (false≢true e);
  same = λ e. h.same refl ∙ g.same refl;
}
