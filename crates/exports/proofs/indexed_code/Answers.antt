-- `indexed_code` meets its contract.
use native.Mathlib.Omega.{arith}
use Rattle.exports.proofs.indexed_code.Goals as goal

pub overflow_mul-result : goal.overflow_mul-result
overflow_mul-result c = let t = rw c.in-Ok.is at c.requires in omega arith

pub overflow_mul-result-in-Err : goal.overflow_mul-result-in-Err
overflow_mul-result-in-Err c = let t = rw c.in-Err.is at c.requires in omega arith

pub overflow_add-result : goal.overflow_add-result
overflow_add-result c = let t = rw c.in-Err.is at c.requires in omega arith

pub returns-in-Ok : goal.returns-in-Ok
returns-in-Ok c = rw c.in-Ok.is

pub returns-in-Err : goal.returns-in-Err
returns-in-Err c = rw c.in-Err.is (omega arith)
