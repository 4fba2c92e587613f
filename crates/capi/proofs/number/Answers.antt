use Rattle.capi.proofs.Numbers.{given_fits, given_number, refused_number}
use Rattle.capi.proofs.number.Goals as goal

pub overflow_cast-result : goal.overflow_cast-result
overflow_cast-result c = given_fits _ _ c.in-Ok.is c.requires

pub returns-in-Ok : goal.returns-in-Ok
returns-in-Ok c = given_number _ _ c.in-Ok.is c.requires

pub returns-in-Err : goal.returns-in-Err
returns-in-Err c = refused_number _ _ _ c.in-Err.is (record { sfits = c.minus.type_inv }) c.minus.ensures
