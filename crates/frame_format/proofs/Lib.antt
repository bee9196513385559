mod Apart
mod AskedAgain
mod HeadNumbers
mod NameTests
mod Places
