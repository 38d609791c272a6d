-- The laws of `AllocationPolicy`.
use Rattle.framehop.specs.Policy.{IsLimited, with_allocation, without_allocation}

pub limited-without_allocation : IsLimited without_allocation
limited-without_allocation = record { rows = λ may none. cc; values = λ may none. cc }

-- it may allocate, and has no limits
pub limited-with_allocation : IsLimited with_allocation
limited-with_allocation = record { rows = λ may. cc; values = λ may. cc }
