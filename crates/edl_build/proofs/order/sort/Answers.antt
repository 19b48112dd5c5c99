use Rattle.std.proofs.Common.{rules}
use Rattle.std.proofs.lemmas.List.Sorted.{answers_always, IsNonDecreasingBy-from_sort}
use Rattle.edl_build.proofs.order.sort.Goals as goal

pub returns : goal.returns
returns c = record {
  same = c.sort_by_key.ensures.permutation;
  rising = IsNonDecreasingBy-from_sort (λ part. part.start) _ (c.in_ok-sort_by_key.ensures.sorted (λ part. part.start) (answers_always _ _ _ (λ f a r g h. search rules)));
  stable = c.sort_by_key.ensures.stable (λ part. part.start) (answers_always _ _ _ (λ f a r g h. search rules));
}
