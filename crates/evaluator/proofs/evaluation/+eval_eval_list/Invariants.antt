-- What falls at each call of the cycle {eval, eval_list}: sixteen times the levels for a term, and for a list one more than that and its arguments.
use Prim.Native.Nat.{◌+◌, ◌*◌}
use Rattle.evaluator.proofs.evaluation.+eval_eval_list.Given as goal

abbrev pub decreases-eval : goal.decreases-eval
decreases-eval l = 16 * l.levels

abbrev pub decreases-eval_list : goal.decreases-eval_list
decreases-eval_list l = 16 * l.levels + l.n + 1
