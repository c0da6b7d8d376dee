-- Powers, band powers and excitations: A/52 7.2.2.2 to 7.2.2.4. First what a reader must believe.
pub mod Psd
pub mod Signed
pub mod BandPsd
pub mod Excitation
-- Then what follows from it: the code's form, how its loops go over the bands, the laws, and the cases of `logadd`.
pub mod Held
pub mod Front
pub mod BandOrder
pub mod SignedLaws
pub mod BandPsdLaws
pub mod HeldLaws
pub mod FrontLaws
pub mod BandOrderLaws
pub mod Cases
