-- Laws of runs: what they count, what they keep, the register through one, fresh boards, what is refused with 1; and what the functions go by.
pub mod RunLaws
pub mod Beginning
pub mod NotSound
pub mod Steady
pub mod Through
pub mod Starting
pub mod FreshBoards
pub mod ErrorsLaws
pub mod Alike
pub mod Unique
pub mod Counting
pub mod FreshLaws
pub mod Going
pub mod Answering
