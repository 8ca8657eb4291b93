-- A term's record by its kind and body.
use Rattle.std.specs.Prelude.{ℕ, List, leb, ltb, length, get_or, Result, Ok, Err}
use Rattle.theory.specs.Bytes
use Rattle.theory.specs.Bytes.{refused, good, TermRecord, constant_record, succ_record, if_record, variable_record, raise_record, handle_record, call_record, term_record}
use Rattle.theory.specs.Builtins.{builtin_funs, last_called, nth_fun}
use Rattle.theory.specs.Syntax.{pick}
use Rattle.checker.specs.declared.node.Node.{Node}
use Rattle.checker.specs.declared.node.Node.TheVariants.{Leaf, Succ, Variable, Inner}
use Rattle.checker.specs.declared.refusal.Reason.{Reason}
use Rattle.checker.specs.declared.refusal.Reason.TheVariants.{WrongNumber}
use Rattle.checker.specs.Refusal.{reason_of}
use Rattle.checker.specs.Answer.{declared}

-- a term's record of the kind k and the body b, at the place p, with n exceptions and functions of the arities ns declared
unfoldable pub tok_at : ℕ → List ℕ → ℕ → ℕ → ℕ → Bytes.Result TermRecord
tok_at n ns p k b = term_record (declared n ns) p k b

-- what the code keeps of a term's record: why it is refused, or its parts and words
unfoldable pub node_of : Bytes.Result TermRecord → Result Node Reason
node_of (refused r) = Err (reason_of r.number)
node_of (good (constant_record b)) = Ok Leaf
node_of (good succ_record) = Ok Succ
node_of (good if_record) = Ok (Inner 3 1)
node_of (good (variable_record x)) = Ok (Variable x)
node_of (good (raise_record e)) = Ok (Inner 0 2)
node_of (good (handle_record e)) = Ok (Inner 2 2)
node_of (good (call_record k n)) = Ok (Inner n 1)

-- raise and handle, with k parts: the exception b, of n that are declared
unfoldable pub exception_node : ℕ → ℕ → ℕ → Result Node Reason
exception_node n b k = pick (ltb b n) (Ok (Inner k 2)) (Err WrongNumber)

-- a call of the built-in b
unfoldable pub builtin_node : ℕ → Result Node Reason
builtin_node b = pick (leb b last_called) (Ok (Inner (nth_fun builtin_funs b).arity 1)) (Err WrongNumber)

-- a call of the declared function b
unfoldable pub function_node : List ℕ → ℕ → Result Node Reason
function_node ns b = pick (ltb b (length ns)) (Ok (Inner (get_or ns b 0) 1)) (Err WrongNumber)

-- the variable b
unfoldable pub variable_node : ℕ → Result Node Reason
variable_node b = pick (leb b 7) (Ok (Variable b)) (Err WrongNumber)
