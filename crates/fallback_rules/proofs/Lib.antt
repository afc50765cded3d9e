pub mod EachChild
pub mod FallbackHeld
pub mod FallbackLawful
pub mod FallbackOut
pub mod FallbackRegular
pub mod OrElse
